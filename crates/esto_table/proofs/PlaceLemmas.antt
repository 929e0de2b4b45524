-- Lists of places: those from one on.
use Rattle.std.proofs.Common.{◌≡◌, ℕ, ◌+◌, ◌-◌, ◌<◌, ◌≤◌, true, false, List, length, get_or, take, drop, Contains, ltb, sym, ap, subst}
use Rattle.std.proofs.Common.{◌∙◌, inl, inr, arith}
use Rattle.std.specs.List.Sorted.{IsPartitionPoint}
use Rattle.std.proofs.lemmas.Bool.{cases_lt, ltb-true, ltb-false}
use Rattle.std.proofs.lemmas.List.{length-take-le, length-drop, get_or-take, get_or-drop}
use Rattle.std.proofs.lemmas.List.Sorted.{IsNonDecreasingBy-take, IsNonDecreasingBy-drop}
use Rattle.esto_table.specs.Places.{IsRising, AreFrom}

-- the list from a place on
tail_read : (xs : List ℕ) (low k d : ℕ) → k < length xs - low → get_or (take (length xs - low) (drop low xs)) k d ≡ get_or xs (low + k) d
tail_read xs low k d l = get_or-take (length xs - low) (drop low xs) k d l ∙ get_or-drop low xs k d

tail_length : (xs : List ℕ) (low : ℕ) → length (take (length xs - low) (drop low xs)) ≡ length xs - low
tail_length xs low = length-take-le (length xs - low) (drop low xs) (omega (arith, length-drop low xs))

pub from_is : (xs : List ℕ) (least low : ℕ) → IsRising xs
    → IsPartitionPoint (λ (e : ℕ). ltb e least ≡ true) (λ (e : ℕ). ltb e least ≡ false) xs low
    → AreFrom least xs (take (length xs - low) (drop low xs))
from_is xs least low up point = record { complete = complete; within = within; rising = rising }
  where
    long : length (take (length xs - low) (drop low xs)) ≡ length xs - low
    long = tail_length xs low

    complete : (place : ℕ) → Contains xs place → least ≤ place → Contains (take (length xs - low) (drop low xs)) place
    complete place (k, l, read) most = elim (cases_lt k low) [
      | inl before ↦
          let below = ltb-true place least (subst (λ (e : ℕ). ltb e least ≡ true) read (point.0 k place (omega arith) before)) in
          absurd (omega arith)
      | inr from ↦
          let here : low + (k - low) ≡ k = omega arith in
          (k - low, omega (arith, long), tail_read xs low (k - low) place (omega arith) ∙ ap (λ n. get_or xs n place) here ∙ read)
    ]

    within : (place : ℕ) → Contains (take (length xs - low) (drop low xs)) place → least ≤ place
    within place (k, l, read) =
        let at : get_or xs (low + k) place ≡ place = sym (tail_read xs low k place (omega (arith, long))) ∙ read in
        ltb-false place least (subst (λ (e : ℕ). ltb e least ≡ false) at (point.1 (low + k) place (omega arith) (omega (arith, long))))

    rising : IsRising (take (length xs - low) (drop low xs))
    rising = IsNonDecreasingBy-take (λ (place : ℕ). place) (length xs - low) (drop low xs)
        (IsNonDecreasingBy-drop (λ (place : ℕ). place) low xs up)
