use Rattle.std.proofs.Common.{◌<◌, ℕ, List, Contains, AllPairs, sym, subst}
use Rattle.std.proofs.lemmas.List.Filters.{dedup_is}
use Rattle.std.proofs.lemmas.List.Kept.{Contains-dedup_nat, Contains-from_dedup}
use Rattle.std.proofs.lemmas.List.Sorted.{Contains-permutation, IsPermutation-sym}
use Rattle.std.proofs.lemmas.Map.Keys.{below_from_sorted, sorted_from_strictly_increasing, IsStrictlyIncreasing-dedup}
use Rattle.esto_docmodel.proofs.matches.sort_unique.Goals as goal

pub returns-clause-ascending : goal.returns-clause-ascending
returns-clause-ascending c =
    subst (λ (them : List ℕ). AllPairs ◌<◌ them) (sym (dedup_is _ _ _ c.dedup.ensures.filtered))
    (λ i j d before within. below_from_sorted _ i j d (sorted_from_strictly_increasing _ (IsStrictlyIncreasing-dedup _ c.in-Ok.ensures.sorted)) before within)

pub returns-clause-same : goal.returns-clause-same
returns-clause-same c = λ x. (
  λ inside. Contains-permutation _ _ x (IsPermutation-sym _ _ c.sort.ensures.permutation)
      (Contains-from_dedup _ _ x (subst (λ (them : List ℕ). Contains them x) (dedup_is _ _ _ c.dedup.ensures.filtered) inside)),
  λ inside. subst (λ (them : List ℕ). Contains them x) (sym (dedup_is _ _ _ c.dedup.ensures.filtered))
      (Contains-dedup_nat _ x (Contains-permutation _ _ x c.sort.ensures.permutation inside)),
)
