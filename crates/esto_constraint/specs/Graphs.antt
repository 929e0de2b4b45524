-- Graphs over numbered relations: walks, cycles and ranks.
use Rattle.std.specs.Prelude.{◌≡◌, ℕ, ◌<◌, ◌≤◌, List, [], ◌∷◌, length, Contains, slice_index}
use Rattle.esto_semantics.specs.Matches.{IsAtMost}

-- One of the edges goes from the first relation to the second.
abbrev pub Joins : List (ℕ × ℕ) → ℕ → ℕ → Type 0
Joins edges from to = Contains edges (from, to)

-- Each edge goes between relations below the count.
abbrev pub IsWithin : ℕ → (ℕ → ℕ → Type 0) → Type 0
IsWithin count Edge = (from to : ℕ) → Edge from to → (from < count) × (to < count)

-- A walk goes along edges from one relation to another; the list has for each of its edges the relation at which it starts.
abbrev pub IsWalk : (ℕ → ℕ → Type 0) → ℕ → List ℕ → ℕ → Type 0
IsWalk Edge from [] to = from ≡ to
IsWalk Edge from (relation ∷ rest) to = (next : ℕ) × (relation ≡ from) × Edge from next × IsWalk Edge next rest to

-- A cycle at a relation is a walk of at least one edge from it back to itself.
abbrev pub IsCycleAt : (ℕ → ℕ → Type 0) → ℕ → List ℕ → Type 0
IsCycleAt Edge start relations = (0 < length relations) × IsWalk Edge start relations start

-- No cycle is at the relation.
abbrev pub HasNoCycle : (ℕ → ℕ → Type 0) → ℕ → Type 0
HasNoCycle Edge start = (relations : List ℕ) → ¬ (IsCycleAt Edge start relations)

-- The graph is acyclic when no cycle is at any relation.
abbrev pub IsAcyclic : (ℕ → ℕ → Type 0) → Type 0
IsAcyclic Edge = (start : ℕ) → HasNoCycle Edge start

-- It is a shortest cycle at the relation, and among the shortest the least by the list of relations.
pub record IsLeastCycleAt (Edge : ℕ → ℕ → Type 0) (start : ℕ) (relations : List ℕ) : Type 0 where
  pub cycle : IsCycleAt Edge start relations
  pub shortest : (others : List ℕ) → IsCycleAt Edge start others → length relations ≤ length others
  pub least : (others : List ℕ) → IsCycleAt Edge start others → length others ≡ length relations → IsAtMost relations others

-- It begins at the least relation that lies on a cycle, and is the least of the shortest cycles there.
pub record IsLeastCycle (Edge : ℕ → ℕ → Type 0) (relations : List ℕ) : Type 0 where
  pub start : ℕ
  pub here : IsLeastCycleAt Edge start relations
  pub first : (other : ℕ) → other < start → HasNoCycle Edge other

-- Some walk of so many edges ends at the relation.
abbrev pub Arrives : (ℕ → ℕ → Type 0) → ℕ → ℕ → Type 0
Arrives Edge relation edges = (from : ℕ) × (relations : List ℕ) × IsWalk Edge from relations relation × (length relations ≡ edges)

-- The rank of a relation is the greatest number of edges on a walk that ends there.
pub record IsRank (Edge : ℕ → ℕ → Type 0) (relation rank : ℕ) : Type 0 where
  pub arrives : Arrives Edge relation rank
  pub most : (from : ℕ) (relations : List ℕ) → IsWalk Edge from relations relation → length relations ≤ rank

-- The list has the rank of each relation below the count.
pub record AreRanks (Edge : ℕ → ℕ → Type 0) (count : ℕ) (ranks : List ℕ) : Type 0 where
  pub for_each : length ranks ≡ count
  pub exact : (relation : ℕ) → relation < count → IsRank Edge relation (slice_index ranks relation)
