-- Joins of rows so far with rows of a fragment.
use Rattle.std.specs.Prelude.{◌≡◌, ◌↔◌, ◌⊎◌, ◌++◌, ℕ, List, slice_get, Some, Contains}
use Rattle.esto_steps.specs.declared.steps.Get.{Get}
use Rattle.esto_steps.specs.declared.steps.Source.{Source}
use Rattle.esto_steps.specs.Meaning.{Follows}
use Rattle.esto_steps.specs.Named.{NamesCodes}

-- The row is one of the rows so far with one of the fragment's rows, which follows it, after it.
abbrev pub IsJoin : Get → List (List ℕ) → List (List ℕ) → List ℕ → Type 0
IsJoin get so_far rows both = (cells row : List ℕ) × Contains so_far cells × Contains rows row × Follows get cells row × (both ≡ cells ++ row)

-- The row is the cells with one of the rows, which follows them, after them.
abbrev pub IsFollower : Get → List ℕ → List (List ℕ) → List ℕ → Type 0
IsFollower get cells rows both = (row : List ℕ) × Contains rows row × Follows get cells row × (both ≡ cells ++ row)

-- The row is the cells with the row at the place, which follows them, after them.
abbrev pub IsFollowerAt : Get → List ℕ → List (List ℕ) → ℕ → List ℕ → Type 0
IsFollowerAt get cells rows place both = (row : List ℕ) × (slice_get rows place ≡ Some row) × Follows get cells row × (both ≡ cells ++ row)

-- The row has the codes that the sources name in a row with the property.
abbrev pub IsKept : List Source → (List ℕ → Type 0) → List ℕ → Type 0
IsKept kept Has row = (both : List ℕ) × Has both × NamesCodes both kept row

-- The new list has what the old one has, and besides it exactly what has the property.
abbrev pub GainsOnly : List (List ℕ) → List (List ℕ) → (List ℕ → Type 0) → Type 0
GainsOnly old new Has = (it : List ℕ) → Contains new it ↔ (Contains old it ⊎ Has it)
