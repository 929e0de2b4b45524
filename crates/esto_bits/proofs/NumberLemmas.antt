-- The rising numbers of a set, read from a number on, and the order of sets.
use Rattle.std.proofs.Common.{◌≡◌, ℕ, suc, ◌+◌, ◌<◌, ◌≤◌, Bool, true, false, List, [], ◌∷◌, length, drop, slice_index_or, refl, sym, ap, ◌∙◌, inl, inr, arith}
use Rattle.std.proofs.Common.{add-one}
use Rattle.std.proofs.Math.Seq.{drop-cons}
use Rattle.std.proofs.Math.ListN.{drop_of_length-le}
use Rattle.std.proofs.lemmas.Bool.{cases_lt}
use Rattle.std.proofs.lemmas.Bool.Decides.{nat_tests}
use Rattle.std.specs.Cmp.Lexicographic.{slice_cmp}
use Rattle.std.specs.Ordering.{ordering_then, nat_cmp}
use Rattle.std.specs.declared.cmp.Ordering.TheVariants.{Less, Equal, Greater}
use Rattle.esto_term.specs.Sets.{numbers_from}
use Rattle.esto_term.proofs.SetLemmas.{Has-within}

-- ---- the numbers from one on

-- the numbers of a set that are not less than `number`
abbrev pub later_numbers : ℕ → List Bool → List ℕ
later_numbers number row = numbers_from number (drop number row)

module _ (row : List Bool) (number : ℕ) where
  pub later_numbers-has : slice_index_or row number false ≡ true → later_numbers number row ≡ number ∷ later_numbers (number + 1) row
  later_numbers-has is =
      ap (numbers_from number) (drop-cons row number false (Has-within row number is))
      ∙ ap (λ is_in. numbers_from number (is_in ∷ drop (suc number) row)) is
      ∙ ap (λ next. number ∷ numbers_from (number + 1) (drop next row)) (sym (add-one number))

  pub later_numbers-end : length row ≤ number → later_numbers number row ≡ []
  later_numbers-end past = ap (numbers_from number) (drop_of_length-le row past)

pub later_numbers-lacks : (row : List Bool) (number : ℕ) → slice_index_or row number false ≡ false → later_numbers number row ≡ later_numbers (number + 1) row
later_numbers-lacks row number is = elim (cases_lt number (length row)) [
  | inl small ↦
      ap (numbers_from number) (drop-cons row number false small)
      ∙ ap (λ is_in. numbers_from number (is_in ∷ drop (suc number) row)) is
      ∙ ap (λ next. numbers_from (number + 1) (drop next row)) (sym (add-one number))
  | inr past ↦ later_numbers-end row number past ∙ sym (later_numbers-end row (number + 1) (omega (arith, past)))
]

-- no number is less than where the numbers begin
from_below-first : (from : ℕ) (row : List Bool) (first : ℕ) (rest : List ℕ) → numbers_from from row ≡ first ∷ rest → from ≤ first
from_below-first from [] first rest is = cc
from_below-first from (true ∷ others) first rest is = let same : from ≡ first = cc in omega arith
from_below-first from (false ∷ others) first rest is = omega (arith, from_below-first (from + 1) others first rest is)

-- ---- the first number in which two sets of one size differ decides

number_first : (number : ℕ) (after others : List ℕ) → 0 < length others → ((first : ℕ) (rest : List ℕ) → others ≡ first ∷ rest → number < first)
    → slice_cmp nat_cmp (number ∷ after) others ≡ Less
number_first number after [] some later = absurd (omega arith)
number_first number after (first ∷ rest) some later = let less : number < first = later first rest refl in
    ap (λ order. ordering_then order (slice_cmp nat_cmp after rest)) (is_less less)
  where
    is_less : {a b : ℕ} → a < b → nat_cmp a b ≡ Less
    is_less less = grind (arith, nat_tests)

number_second : (number : ℕ) (after others : List ℕ) → 0 < length others → ((first : ℕ) (rest : List ℕ) → others ≡ first ∷ rest → number < first)
    → slice_cmp nat_cmp others (number ∷ after) ≡ Greater
number_second number after [] some later = absurd (omega arith)
number_second number after (first ∷ rest) some later =
    let less : number < first = later first rest refl in ap (λ order. ordering_then order (slice_cmp nat_cmp rest after)) (is_greater less)
  where
    is_greater : {a b : ℕ} → a < b → nat_cmp b a ≡ Greater
    is_greater less = grind (arith, nat_tests)

module _ (row other : List Bool) (number : ℕ) (sizes : length (later_numbers number row) ≡ length (later_numbers number other)) where
  -- the set that has the number comes first
  pub cmp-has : slice_index_or row number false ≡ true → slice_index_or other number false ≡ false
      → slice_cmp nat_cmp (later_numbers number row) (later_numbers number other) ≡ Less
  cmp-has has lacks =
      let mine = later_numbers-has row number has in
      let theirs = later_numbers-lacks other number lacks in
      rw (mine, theirs) (number_first number (later_numbers (number + 1) row) (later_numbers (number + 1) other)
      (omega (arith, sizes, ap length mine, ap length theirs))
      (λ first rest is. omega (arith, from_below-first (number + 1) (drop (number + 1) other) first rest is)))

  pub cmp-lacks : slice_index_or row number false ≡ false → slice_index_or other number false ≡ true
      → slice_cmp nat_cmp (later_numbers number row) (later_numbers number other) ≡ Greater
  cmp-lacks lacks has =
      let mine = later_numbers-lacks row number lacks in
      let theirs = later_numbers-has other number has in
      rw (mine, theirs) (number_second number (later_numbers (number + 1) other) (later_numbers (number + 1) row)
      (omega (arith, sizes, ap length mine, ap length theirs))
      (λ first rest is. omega (arith, from_below-first (number + 1) (drop (number + 1) row) first rest is)))

  -- where both have the number, or neither, what follows decides
  pub cmp-next : slice_index_or row number false ≡ slice_index_or other number false
      → (length (later_numbers (number + 1) row) ≡ length (later_numbers (number + 1) other))
      × (slice_cmp nat_cmp (later_numbers (number + 1) row) (later_numbers (number + 1) other) ≡ slice_cmp nat_cmp (later_numbers number row)
      (later_numbers number other))
  cmp-next same = go (slice_index_or row number false) refl
    where
      same_first : (rest rest' : List ℕ) → slice_cmp nat_cmp (number ∷ rest) (number ∷ rest') ≡ slice_cmp nat_cmp rest rest'
      same_first rest rest' = ap (λ order. ordering_then order (slice_cmp nat_cmp rest rest')) is_equal
        where
          is_equal : nat_cmp number number ≡ Equal
          is_equal = grind (arith, nat_tests)

      go : (is_in : Bool) → slice_index_or row number false ≡ is_in
          → (length (later_numbers (number + 1) row) ≡ length (later_numbers (number + 1) other))
          × (slice_cmp nat_cmp (later_numbers (number + 1) row) (later_numbers (number + 1) other) ≡ slice_cmp nat_cmp (later_numbers number row)
          (later_numbers number other))
      go true is =
          let mine = later_numbers-has row number is in
          let theirs = later_numbers-has other number (sym same ∙ is) in (
            omega (arith, sizes, ap length mine, ap length theirs),
            sym (rw (mine, theirs) (same_first (later_numbers (number + 1) row) (later_numbers (number + 1) other))),
          )
      go false is =
          let mine = later_numbers-lacks row number is in
          let theirs = later_numbers-lacks other number (sym same ∙ is) in
          (sym (ap length mine) ∙ sizes ∙ ap length theirs, sym (rw (mine, theirs) refl))
