-- Rounds over the edges of a graph: numbers that rise along edges up to the ranks, and distances that fall.
use Rattle.std.specs.Prelude.{◌≡◌, ℕ, ◌<◌, ◌≤◌, ◌+◌, Bool, true, false, List, length, slice_index, slice_index_or, slice_set}
use Rattle.std.specs.List.{sum}
use Rattle.esto_constraint.specs.Graphs.{Joins, IsWalk, Arrives}
use Rattle.esto_acyclic.specs.declared.graph.Round.{Round}
use Rattle.esto_acyclic.specs.declared.graph.Round.TheVariants.{Still, Rose, Full}

-- Some walk has as many edges as there are relations.
abbrev pub IsLong : (ℕ → ℕ → Type 0) → ℕ → Type 0
IsLong Edge count = (relation : ℕ) × (relation < count) × Arrives Edge relation count

-- Each number is that of the edges on some walk which ends at its relation, and is below the number of relations.
abbrev pub AreReached : (ℕ → ℕ → Type 0) → List ℕ → Type 0
AreReached Edge ranks =
    (relation : ℕ) → relation < length ranks → Arrives Edge relation (slice_index ranks relation) × (slice_index ranks relation < length ranks)

-- What an edge does to the numbers: they rise along it; or the one at its end is raised; or that would be too great.
abbrev pub Lifts : ℕ → ℕ → List ℕ → List ℕ → Round → Type 0
Lifts from to old new Still = (new ≡ old) × (slice_index old from < slice_index old to)
Lifts from to old new Rose =
    (new ≡ slice_set old to (slice_index old from + 1)) × (slice_index old to ≤ slice_index old from) × (slice_index old from + 1 < length old)
Lifts from to old new Full = (new ≡ old) × (length old ≤ slice_index old from + 1)

-- The numbers rise along the edge at this place.
abbrev pub RisesAt : List (ℕ × ℕ) → List ℕ → ℕ → Type 0
RisesAt edges ranks place =
    slice_index ranks (slice_index_or edges place (0, 0)).0 < slice_index ranks (slice_index_or edges place (0, 0)).1

-- What a round over the edges does to the numbers: they rise along each edge; or they grew; or some walk is long.
abbrev pub Raises : List (ℕ × ℕ) → List ℕ → List ℕ → Round → Type 0
Raises edges old new Still = (place : ℕ) → place < length edges → RisesAt edges new place
Raises edges old new Rose = sum old < sum new
Raises edges old new Full = IsLong (Joins edges) (length old)

-- Some walk of so many edges goes from the one relation to the other.
abbrev pub Leads : (ℕ → ℕ → Type 0) → ℕ → ℕ → ℕ → Type 0
Leads Edge from edges to = (relations : List ℕ) × IsWalk Edge from relations to × (length relations ≡ edges)

-- The distance at the target is 0, and each distance below the number of relations is that of some walk to the target.
pub record AreNear (Edge : ℕ → ℕ → Type 0) (target : ℕ) (distances : List ℕ) : Type 0 where
  pub zero : slice_index distances target ≡ 0
  pub held : (relation : ℕ) → relation < length distances → slice_index distances relation < length distances
      → Leads Edge relation (slice_index distances relation) target

-- They are so, and fall by at most one along each edge.
pub record AreDistances (Edge : ℕ → ℕ → Type 0) (target : ℕ) (distances : List ℕ) : Type 0 where
  pub near : AreNear Edge target distances
  pub falls : (from to : ℕ) → Edge from to → slice_index distances from ≤ slice_index distances to + 1

-- Whether an edge lowers the distance at its start.
abbrev pub Lowers : ℕ → ℕ → List ℕ → List ℕ → Bool → Type 0
Lowers from to old new false = (new ≡ old) × (slice_index old from ≤ slice_index old to + 1)
Lowers from to old new true = (new ≡ slice_set old from (slice_index old to + 1)) × (slice_index old to + 1 < slice_index old from)

-- The distances fall by at most one along the edge at this place.
abbrev pub FallsAt : List (ℕ × ℕ) → List ℕ → ℕ → Type 0
FallsAt edges distances place =
    slice_index distances (slice_index_or edges place (0, 0)).0 ≤ slice_index distances (slice_index_or edges place (0, 0)).1 + 1

-- Whether a round over the edges lowers distances: they shrank, or fall by at most one along each edge.
abbrev pub Sinks : List (ℕ × ℕ) → List ℕ → List ℕ → Bool → Type 0
Sinks edges old new false = (place : ℕ) → place < length edges → FallsAt edges new place
Sinks edges old new true = sum new < sum old
