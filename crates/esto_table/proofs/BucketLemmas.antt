-- Buckets: what stands in them after one more place.
use Rattle.std.proofs.Common.{◌≡◌, ◌≢◌, ℕ, ◌+◌, ◌-◌, ◌<◌, ◌≤◌, ◌%◌, List, [], ◌∷◌, ◌++◌, length, get_or, replicate, Contains, sym, ap, subst, ◌∙◌, inl, inr}
use Rattle.std.proofs.Common.{arith}
use Rattle.std.proofs.lemmas.Bool.{cases_lt, cases_eq}
use Rattle.std.proofs.lemmas.List.{length-set, get_or-set_same, get_or-set_other, get_or-replicate, get_or_past, length-replicate, get_or_default}
use Rattle.std.proofs.lemmas.List.Elements.{Contains-append_left, Contains-push, Contains-push_cases}
use Rattle.std.proofs.lemmas.List.Sorted.{IsNonDecreasingBy-push}
use Rattle.esto_term.proofs.ListLemmas.{Contains-nil}
use Rattle.esto_table.specs.Buckets.{places_at, with_place, AreRising}
use Rattle.esto_table.specs.Places.{IsRising}

-- ---- a list of places with one more

pub IsRising-nil : IsRising []
IsRising-nil i j d le lt = absurd (omega arith)

pub IsRising-push : (places : List ℕ) (place : ℕ) → ((other : ℕ) → Contains places other → other < place + 1) → IsRising places
    → IsRising (places ++ place ∷ [])
IsRising-push places place below up = IsNonDecreasingBy-push (λ (p : ℕ). p) places place up last
  where
    last : (d : ℕ) → 0 < length places → get_or places (length places - 1) d ≤ place
    last d some =
        let here : get_or places (length places - 1) (get_or places (length places - 1) d) ≡ get_or places (length places - 1) d =
        sym (get_or_default places (length places - 1) d (get_or places (length places - 1) d) (omega arith)) in
        let under = below (get_or places (length places - 1) d) (length places - 1, omega arith, here) in omega arith

-- ---- empty buckets

pub AreRising-empty : (buckets : List (List ℕ)) → ((bucket : ℕ) → get_or buckets bucket [] ≡ []) → AreRising buckets 0
AreRising-empty buckets none = record {
  below = λ bucket place inside. absurd (Contains-nil place (subst (λ places. Contains places place) (none bucket) inside));
  rising = λ bucket. subst IsRising (sym (none bucket)) IsRising-nil;
}

none_in : (count bucket : ℕ) → ◌≡◌ {A = List ℕ} (get_or (replicate count []) bucket []) []
none_in count bucket = elim (cases_lt bucket count) [
  | inl below ↦ get_or-replicate count bucket [] [] below
  | inr past ↦ get_or_past (replicate count []) bucket [] (omega (arith, length-replicate {A = List ℕ} count []))
]

pub AreRising-replicate : (count : ℕ) → AreRising (replicate count []) 0
AreRising-replicate count = AreRising-empty (replicate count []) (none_in count)

pub AreRising-more : (buckets : List (List ℕ)) (bound : ℕ) → AreRising buckets bound → AreRising buckets (bound + 1)
AreRising-more buckets bound up = record {
  below = λ bucket place inside. let under = up.below bucket place inside in omega arith;
  rising = up.rising;
}

-- ---- one more place

module _ (buckets new : List (List ℕ)) (hash place : ℕ) (some : 0 < length buckets) (grown : new ≡ with_place buckets hash place) where
  within : hash % length buckets < length buckets
  within = omega arith

  pub same_length : length new ≡ length buckets
  same_length = ap length grown ∙ length-set buckets (hash % length buckets) (places_at buckets hash ++ place ∷ [])

  at_own : get_or new (hash % length buckets) [] ≡ places_at buckets hash ++ place ∷ []
  at_own = ap (λ (lists : List (List ℕ)). get_or lists (hash % length buckets) []) grown
      ∙ get_or-set_same buckets (hash % length buckets) (places_at buckets hash ++ place ∷ []) [] within

  at_other : (bucket : ℕ) → bucket ≢ hash % length buckets → get_or new bucket [] ≡ get_or buckets bucket []
  at_other bucket apart = ap (λ (lists : List (List ℕ)). get_or lists bucket []) grown
      ∙ get_or-set_other buckets (hash % length buckets) bucket (places_at buckets hash ++ place ∷ []) [] apart

  kept_in : (bucket other : ℕ) → Contains (get_or buckets bucket []) other → Contains (get_or new bucket []) other
  kept_in bucket other inside = elim (cases_eq bucket (hash % length buckets)) [
    | inl same ↦
        rw same (rw at_own (Contains-append_left (places_at buckets hash) (place ∷ []) other (subst (λ b. Contains (get_or buckets b []) other) same inside)))
    | inr apart ↦ rw (at_other bucket apart) inside
  ]

  pub put_keeps : (other_hash other : ℕ) → Contains (places_at buckets other_hash) other → Contains (places_at new other_hash) other
  put_keeps other_hash other inside =
      subst (λ long. Contains (get_or new (other_hash % long) []) other) (sym same_length) (kept_in (other_hash % length buckets) other inside)

  pub put_adds : Contains (places_at new hash) place
  put_adds = subst (λ long. Contains (get_or new (hash % long) []) place) (sym same_length) (rw at_own (Contains-push (places_at buckets hash) place))

  pub put_rises : AreRising buckets (place + 1) → AreRising new (place + 1)
  put_rises up = record { below = below; rising = rising }
    where
      below : (bucket other : ℕ) → Contains (get_or new bucket []) other → other < place + 1
      below bucket other inside = elim (cases_eq bucket (hash % length buckets)) [
        | inl same ↦ elim (Contains-push_cases (places_at buckets hash) place other
            (subst (λ places. Contains places other) at_own (subst (λ b. Contains (get_or new b []) other) same inside))) [
              | inl before ↦ up.below (hash % length buckets) other before
              | inr here ↦ omega arith
            ]
        | inr apart ↦ up.below bucket other (subst (λ places. Contains places other) (at_other bucket apart) inside)
      ]

      rising : (bucket : ℕ) → IsRising (get_or new bucket [])
      rising bucket = elim (cases_eq bucket (hash % length buckets)) [
        | inl same ↦ rw same (rw at_own (IsRising-push (places_at buckets hash) place
            (λ other inside. up.below (hash % length buckets) other inside) (up.rising (hash % length buckets))))
        | inr apart ↦ rw (at_other bucket apart) (up.rising bucket)
      ]
