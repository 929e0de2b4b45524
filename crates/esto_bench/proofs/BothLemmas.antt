-- Lists with something for each number below a count, or for both fragments of each relation.
use Rattle.std.proofs.Common.{◌≡◌, ◌⊎◌, ◌<◌, ◌≤◌, ◌+◌, ◌*◌, ◌/◌, ℕ, zero, suc, List, [], ◌∷◌, ◌++◌, map, length, slice_get, Some, Contains, sym, ap, ◌∙◌, inl}
use Rattle.std.proofs.Common.{inr, arith, add-one, zero-add}
use Rattle.std.specs.List.{flat_map, range_with_len}
use Rattle.std.proofs.lemmas.List.Concat.{flat_map-append}
use Rattle.std.proofs.lemmas.List.{map-append}
use Rattle.esto_term.proofs.ListLemmas.{Contains-at, Contains-cases, Contains-flat_from, Contains-map_from, Contains-nil, range_at}
use Rattle.esto_bench.specs.Case.{below, of_both}

-- ---- the numbers below a count

range_suc : (first count : ℕ) → range_with_len first (suc count) ≡ range_with_len first count ++ (first + count) ∷ []
range_suc first zero = let same : first ≡ first + 0 = omega arith in ap (λ (it : ℕ). it ∷ []) same
range_suc first (suc count) =
    let same : first + 1 + count ≡ first + suc count = omega arith in
    ap (λ (rest : List ℕ). first ∷ rest) (range_suc (first + 1) count ∙ ap (λ (it : ℕ). range_with_len (first + 1) count ++ it ∷ []) same)

-- one number more
pub below_more : (count : ℕ) → below (count + 1) ≡ below count ++ count ∷ []
below_more count = rw add-one (range_suc 0 count ∙ ap (λ (it : ℕ). below count ++ it ∷ []) (zero-add count))

range_bounds : (first count number : ℕ) → Contains (range_with_len first count) number → (first ≤ number) × (number < first + count)
range_bounds first zero number inside = absurd (Contains-nil number inside)
range_bounds first (suc count) number inside = elim (Contains-cases first (range_with_len (first + 1) count) number inside) [
  | inl is ↦ (omega (arith, is), omega (arith, is))
  | inr later ↦ let bounds = range_bounds (first + 1) count number later in (omega (arith, bounds.0), omega (arith, bounds.1))
]

pub below_bound : (count number : ℕ) → Contains (below count) number → number < count
below_bound count number inside = let bound = (range_bounds 0 count number inside).1 in omega (arith, bound)

pub below_there : (count number : ℕ) → number < count → Contains (below count) number
below_there count number less = Contains-at (below count) number number (range_at 0 count number less ∙ ap Some (zero-add number))

module _ {X : Type 0} (f : ℕ → X) where
  -- one thing more
  pub mapped_more : (count : ℕ) → map f (below (count + 1)) ≡ map f (below count) ++ f count ∷ []
  mapped_more count = ap (map f) (below_more count) ∙ map-append f (below count) (count ∷ [])

  -- a thing is that of a number below the count
  pub mapped_from : (count : ℕ) (thing : X) → Contains (map f (below count)) thing → (number : ℕ) × (number < count) × (thing ≡ f number)
  mapped_from count thing inside =
      let found = Contains-map_from f (below count) thing inside in (found.0, below_bound count found.0 found.1, sym found.2)

-- ---- both fragments of each relation

module _ {X : Type 0} (of_a of_b : ℕ → X) where
  abbrev pair : ℕ → List X
  pair relation = of_a relation ∷ of_b relation ∷ []

  -- one relation more
  pub both_more : (size : ℕ) → of_both of_a of_b (size + 1) ≡ of_both of_a of_b size ++ of_a size ∷ of_b size ∷ []
  both_more size = ap (flat_map pair) (below_more size) ∙ flat_map-append pair (below size) (size ∷ [])

  -- a thing is that of the one or the other fragment of a relation below the size
  pub both_from : (size : ℕ) (thing : X) → Contains (of_both of_a of_b size) thing
      → (relation : ℕ) × (relation < size) × ((thing ≡ of_a relation) ⊎ (thing ≡ of_b relation))
  both_from size thing inside =
      let found = Contains-flat_from pair (below size) thing inside in (
        found.0,
        below_bound size found.0 found.1,
        elim (Contains-cases (of_a found.0) (of_b found.0 ∷ []) thing found.2) [
          | inl is ↦ inl (sym is)
          | inr later ↦ elim (Contains-cases (of_b found.0) [] thing later) [ inl is ↦ inr (sym is) | inr none ↦ absurd (Contains-nil thing none) ]
        ],
      )

  -- two things more, of a list that a function makes so of another
  pub both_pushed : {Y : Type 0} (f : Y → X) (relation : ℕ) (old new : List Y) (first second : Y) → new ≡ old ++ first ∷ second ∷ []
      → f first ≡ of_a relation → f second ≡ of_b relation → map f old ≡ of_both of_a of_b relation → map f new ≡ of_both of_a of_b (relation + 1)
  both_pushed f relation old new first second added is_first is_second before =
      let mapped : map f new ≡ map f old ++ f first ∷ f second ∷ [] = ap (map f) added ∙ map-append f old (first ∷ second ∷ []) in
      let here : map f old ++ f first ∷ f second ∷ [] ≡ of_both of_a of_b relation ++ of_a relation ∷ of_b relation ∷ [] =
      λ i. before i ++ is_first i ∷ is_second i ∷ [] in
      mapped ∙ here ∙ sym (both_more relation)

pair_long : {X : Type 0} (of_a of_b : ℕ → X) (first count : ℕ)
    → length (flat_map (λ (relation : ℕ). of_a relation ∷ of_b relation ∷ []) (range_with_len first count)) ≡ 2 * count
pair_long of_a of_b first zero = omega arith
pair_long of_a of_b first (suc count) = let rest = pair_long of_a of_b (first + 1) count in omega (arith, rest)

-- there are two things for each relation
pub both_long : {X : Type 0} (of_a of_b : ℕ → X) (size : ℕ) → length (of_both of_a of_b size) ≡ 2 * size
both_long of_a of_b size = pair_long of_a of_b 0 size

half_more : (number : ℕ) → suc (suc number) / 2 ≡ number / 2 + 1
half_more number = omega arith

-- where both fragments of a relation have one thing, a fragment has that of half its number
module _ {X : Type 0} (f : ℕ → X) where
  from_at : (first count number : ℕ) → number < 2 * count
      → slice_get (flat_map (λ (relation : ℕ). f relation ∷ f relation ∷ []) (range_with_len first count)) number ≡ Some (f (first + number / 2))
  from_at first zero number within = absurd (omega (arith, within))
  from_at first (suc count) zero within = let same : first ≡ first + 0 / 2 = omega arith in ap (λ (it : ℕ). Some (f it)) same
  from_at first (suc count) (suc zero) within = let same : first ≡ first + 1 / 2 = omega arith in ap (λ (it : ℕ). Some (f it)) same
  from_at first (suc count) (suc (suc number)) within =
      let half = half_more number in
      let same : first + 1 + number / 2 ≡ first + suc (suc number) / 2 = omega (arith, half) in
      from_at (first + 1) count number (omega (arith, within)) ∙ ap (λ (it : ℕ). Some (f it)) same

  pub both_at : (size number : ℕ) → number < 2 * size → slice_get (of_both f f size) number ≡ Some (f (number / 2))
  both_at size number within =
      let same : 0 + number / 2 ≡ number / 2 = omega arith in from_at 0 size number within ∙ ap (λ (it : ℕ). Some (f it)) same
