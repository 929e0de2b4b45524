-- What is judged of the list of the edges that rules give.
use Rattle.std.proofs.Common.{◌≡◌, ◌↔◌, ℕ, ◌<◌, List, [], ◌∷◌, sym, subst}
use Rattle.std.specs.List.{All, AllByRecursion}
use Rattle.std.proofs.lemmas.List.Elements.{All-from_recursion}
use Rattle.esto_semantics.specs.Rules.{Rule}
use Rattle.esto_constraint.specs.Graphs.{Joins, IsWithin, IsWalk, IsLeastCycle, IsAcyclic, AreRanks}
use Rattle.esto_acyclic.proofs.SameLemmas.{IsWithin-same, IsLeastCycle-same, AreRanks-same}
use Rattle.esto_constraint.proofs.EdgeLemmas.{joins_edges}
use Rattle.esto_constraint.specs.Relations.{edges_of, IsEdge}

-- ---- the relations of a cycle

starts_below : (Edge : ℕ → ℕ → Type 0) (count : ℕ) → IsWithin count Edge → (from : ℕ) (relations : List ℕ) (to : ℕ) → IsWalk Edge from relations to
    → AllByRecursion (λ relation. relation < count) relations
starts_below Edge count within from [] to same = tt
starts_below Edge count within from (here ∷ rest) to (next, is, edge, walk) =
    (subst (λ relation. relation < count) (sym is) (within from next edge).0, starts_below Edge count within next rest to walk)

pub cycle_below : (Edge : ℕ → ℕ → Type 0) (count : ℕ) → IsWithin count Edge → (relations : List ℕ) → IsLeastCycle Edge relations
    → All (λ relation. relation < count) relations
cycle_below Edge count within relations is =
    All-from_recursion (λ relation. relation < count) relations (starts_below Edge count within is.start relations is.start is.here.cycle.1)

pub not_acyclic : (Edge : ℕ → ℕ → Type 0) (relations : List ℕ) → IsLeastCycle Edge relations → ¬ (IsAcyclic Edge)
not_acyclic Edge relations is acyclic = acyclic is.start relations is.here.cycle

-- ---- what is judged of the list

module _ (rules : List Rule) (edges : List (ℕ × ℕ)) (is : edges ≡ edges_of rules) where
  joined : (from to : ℕ) → Joins edges from to ↔ IsEdge rules from to
  joined = subst (λ list. (from to : ℕ) → Joins list from to ↔ IsEdge rules from to) (sym is) (joins_edges rules)

  pub joined_within : (count number : ℕ) → number ≡ count → IsWithin count (IsEdge rules) → IsWithin number (Joins edges)
  joined_within count number same within = subst (λ n. IsWithin n (Joins edges)) (sym same) (IsWithin-same (Joins edges) (IsEdge rules) joined count within)

  pub judged_ranks : (count number : ℕ) → number ≡ count → (ranks : List ℕ) → AreRanks (Joins edges) number ranks → AreRanks (IsEdge rules) count ranks
  judged_ranks count number same ranks are =
      AreRanks-same (Joins edges) (IsEdge rules) joined count ranks (subst (λ n. AreRanks (Joins edges) n ranks) same are)

  pub judged_cycle : (relations : List ℕ) → IsLeastCycle (Joins edges) relations → IsLeastCycle (IsEdge rules) relations
  judged_cycle relations cycle = IsLeastCycle-same (Joins edges) (IsEdge rules) joined relations cycle
