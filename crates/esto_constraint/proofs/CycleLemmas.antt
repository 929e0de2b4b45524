-- The order of lists of relations, and what ranks and the least cycle say.
use Rattle.std.proofs.Common.{◌≡◌, ◌≢◌, ◌⊎◌, inl, inr, ℕ, suc, ◌<◌, List, [], ◌∷◌, length, slice_index, refl, sym, ap, ◌∙◌, subst, arith}
use Rattle.std.specs.Ordering.{nat_cmp, ordering_then}
use Rattle.std.specs.Cmp.Lexicographic.{slice_cmp}
use Rattle.std.specs.declared.cmp.Ordering.TheVariants.{Less, Equal}
use Rattle.std.proofs.lemmas.Cmp.{ranked, by_ranked}
use Rattle.std.proofs.lemmas.Bool.Decides.{nat_tests}
use Rattle.esto_semantics.specs.Matches.{IsAtMost}
use Rattle.esto_constraint.specs.Graphs.{IsWithin, IsAcyclic, IsLeastCycleAt, IsLeastCycle, IsRank, AreRanks}
use Rattle.esto_constraint.proofs.WalkLemmas.{same_or_apart, Arrives-next, walk_rises, walk_is_short}

-- ---- lists of relations in order

cmp_less : (x y : ℕ) → x < y → nat_cmp x y ≡ Less
cmp_less x y less = grind (arith, nat_tests)

cmp_same : (x y : ℕ) → x ≡ y → nat_cmp x y ≡ Equal
cmp_same x y same = grind (arith, nat_tests)

pub IsAtMost-less : (x y : ℕ) (xs ys : List ℕ) → x < y → IsAtMost (x ∷ xs) (y ∷ ys)
IsAtMost-less x y xs ys less greater =
    let first : slice_cmp nat_cmp (x ∷ xs) (y ∷ ys) ≡ Less = ap (λ order. ordering_then order (slice_cmp nat_cmp xs ys)) (cmp_less x y less) in
    cc

pub IsAtMost-same : (x y : ℕ) (xs ys : List ℕ) → x ≡ y → IsAtMost xs ys → IsAtMost (x ∷ xs) (y ∷ ys)
IsAtMost-same x y xs ys same rest greater =
    rest (sym (ap (λ order. ordering_then order (slice_cmp nat_cmp xs ys)) (cmp_same x y same)) ∙ greater)

IsAtMost-cases : (x y : ℕ) (xs ys : List ℕ) → IsAtMost (x ∷ xs) (y ∷ ys) → (x < y) ⊎ ((x ≡ y) × IsAtMost xs ys)
IsAtMost-cases x y xs ys at_most = by_ranked (x < y) (x ≡ y) (y < x) (nat_cmp x y) (ranked x y (nat_cmp x y) refl)
    (λ is less. inl less)
    (λ is same. inr (same, λ greater. at_most (ap (λ order. ordering_then order (slice_cmp nat_cmp xs ys)) is ∙ greater)))
    (λ is more. absurd (at_most (ap (λ order. ordering_then order (slice_cmp nat_cmp xs ys)) is)))

same_lists : (xs ys : List ℕ) → length xs ≡ length ys → IsAtMost xs ys → IsAtMost ys xs → xs ≡ ys
same_lists [] [] long one other = refl
same_lists [] (y ∷ ys) long one other = absurd (omega arith)
same_lists (x ∷ xs) [] long one other = absurd (omega arith)
same_lists (x ∷ xs) (y ∷ ys) long one other = by (same_lists xs ys (omega arith)) (IsAtMost-cases x y xs ys one) (IsAtMost-cases y x ys xs other)
  where
    by : (IsAtMost xs ys → IsAtMost ys xs → xs ≡ ys) → (x < y) ⊎ ((x ≡ y) × IsAtMost xs ys) → (y < x) ⊎ ((y ≡ x) × IsAtMost ys xs) → x ∷ xs ≡ y ∷ ys
    by later (inl less) (inl more) = absurd (omega arith)
    by later (inl less) (inr (same, rest)) = absurd (omega arith)
    by later (inr (same, rest)) (inl more) = absurd (omega arith)
    by later (inr (same, rest)) (inr (also, back)) = let equal = later rest back in cc

-- ---- ranks

module _ (Edge : ℕ → ℕ → Type 0) (count : ℕ) (ranks : List ℕ) (within : IsWithin count Edge) (are : AreRanks Edge count ranks) where
  pub ranks_rise : (from to : ℕ) → Edge from to → slice_index ranks from < slice_index ranks to
  ranks_rise from to edge =
      let longer = Arrives-next Edge from to (slice_index ranks from) (are.exact from (within from to edge).0).arrives edge in
      let most = (are.exact to (within from to edge).1).most longer.0 longer.1 longer.2 in
      omega (arith, longer.3)

  pub acyclic : IsAcyclic Edge
  acyclic start relations (some, walk) = let rise = walk_rises Edge (slice_index ranks) ranks_rise start relations start walk in omega arith

  pub ranks_are_small : (relation : ℕ) → relation < count → slice_index ranks relation < count
  ranks_are_small relation below =
      let longest = (are.exact relation below).arrives in
      let short = walk_is_short Edge count within acyclic longest.0 longest.1 relation below longest.2 in
      omega (arith, longest.3)

-- a relation has one rank
IsRank-one : (Edge : ℕ → ℕ → Type 0) (relation rank other : ℕ) → IsRank Edge relation rank → IsRank Edge relation other → rank ≡ other
IsRank-one Edge relation rank other one two =
    let low = two.most one.arrives.0 one.arrives.1 one.arrives.2 in
    let high = one.most two.arrives.0 two.arrives.1 two.arrives.2 in
    omega (arith, one.arrives.3, two.arrives.3)

same_numbers : (xs ys : List ℕ) → length xs ≡ length ys → ((k : ℕ) → k < length xs → slice_index xs k ≡ slice_index ys k) → xs ≡ ys
same_numbers [] [] long same = refl
same_numbers [] (y ∷ ys) long same = absurd (omega arith)
same_numbers (x ∷ xs) [] long same = absurd (omega arith)
same_numbers (x ∷ xs) (y ∷ ys) long same =
    let first : x ≡ y = same 0 (omega arith) in
    let rest = same_numbers xs ys (omega arith) (λ k below. same (suc k) (omega arith)) in
    cc

pub one_list_of_ranks : (Edge : ℕ → ℕ → Type 0) (count : ℕ) (ranks others : List ℕ) → AreRanks Edge count ranks → AreRanks Edge count others → ranks ≡ others
one_list_of_ranks Edge count ranks others one two = same_numbers ranks others (one.for_each ∙ sym two.for_each)
    (λ k below. IsRank-one Edge k (slice_index ranks k) (slice_index others k) (one.exact k (subst (λ c. k < c) one.for_each below))
    (two.exact k (subst (λ c. k < c) one.for_each below)))

-- ---- the least cycle

same_start : (Edge : ℕ → ℕ → Type 0) (relations others : List ℕ) (one : IsLeastCycle Edge relations) (two : IsLeastCycle Edge others) → one.start ≡ two.start
same_start Edge relations others one two = elim (same_or_apart one.start two.start) [
  | inl same ↦ same
  | inr apart ↦ absurd (by (order one.start two.start apart))
]
  where
    order : (i j : ℕ) → i ≢ j → (i < j) ⊎ (j < i)
    order i j apart = grind arith

    by : (one.start < two.start) ⊎ (two.start < one.start) → ⊥
    by (inl less) = two.first one.start less relations one.here.cycle
    by (inr more) = one.first two.start more others two.here.cycle

pub one_least_cycle : (Edge : ℕ → ℕ → Type 0) (relations others : List ℕ) → IsLeastCycle Edge relations → IsLeastCycle Edge others → relations ≡ others
one_least_cycle Edge relations others one two = by (subst (λ start. IsLeastCycleAt Edge start others) (sym (same_start Edge relations others one two)) two.here)
  where
    by : IsLeastCycleAt Edge one.start others → relations ≡ others
    by also =
        let one_short = one.here.shortest others also.cycle in
        let also_short = also.shortest relations one.here.cycle in
        let long : length relations ≡ length others = omega arith in
        same_lists relations others long (one.here.least others also.cycle (sym long)) (also.least relations one.here.cycle long)
