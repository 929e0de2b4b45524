-- Things each once, in order of first occurrence.
use Rattle.std.specs.Prelude.{◌≡◌, ◌↔◌, ℕ, ◌<◌, Bool, true, false, List, [], ◌∷◌, ◌++◌, Some, slice_get, Contains, AllPairs}

-- One of the things stands at a place before every place of the other.
abbrev pub StandsBefore : {X : Type 0} → List X → X → X → Type 0
StandsBefore things one other =
    (place : ℕ) × (slice_get things place ≡ Some one) × ((later : ℕ) → slice_get things later ≡ Some other → place < later)

-- Where one of the things first stands before another, it does so among the others too.
abbrev pub KeepOrder : {X : Type 0} → List X → List X → Type 0
KeepOrder {X} things others = (one other : X) → Contains things other → StandsBefore things one other → StandsBefore others one other

-- The others are all of the things, and no more, in the order in which these first stand.
pub record KeepAll {X : Type 0} (things others : List X) : Type 0 where
  pub same : (thing : X) → Contains things thing ↔ Contains others thing
  pub in_order : KeepOrder things others

-- What is kept are the things, each once, since none stands before itself, in the order in which they first stand.
pub record AreEachOnce {X : Type 0} (things kept : List X) : Type 0 where
  pub same : (thing : X) → Contains kept thing ↔ Contains things thing
  pub in_order : AllPairs (λ one other. StandsBefore things one other) kept

-- A thing that is new stands at the end now; one that was there adds nothing.
abbrev pub IsAdded : {X : Type 0} → List X → List X → X → Bool → Type 0
IsAdded old new thing true = ¬ (Contains old thing) × (new ≡ old ++ thing ∷ [])
IsAdded old new thing false = Contains old thing × (new ≡ old)
