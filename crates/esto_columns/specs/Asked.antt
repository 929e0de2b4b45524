-- How fragments are asked.
use Rattle.std.specs.Prelude.{◌≢◌, ◌==◌, ◌↔◌, ℕ, ◌<◌, Bool, List, slice_index_or, Contains, AllPairs}
use Rattle.std.specs.List.{list_all}
use Rattle.esto_columns.specs.declared.fragment.Input.{Input}

-- How many columns a fragment has, and the ways in which it can be asked, each a list of columns that have to be given.
pub record Shape : Type 0 where
  pub arity : ℕ
  pub ways : List (List ℕ)

-- The columns may be asked of the fragment: they are there, and they are exactly those of one of its ways, each once.
pub record IsAllowed (shape : Shape) (columns : List ℕ) : Type 0 where
  pub there : (column : ℕ) → Contains columns column → column < shape.arity
  pub once : AllPairs ◌≢◌ columns
  pub way : (way : List ℕ) × Contains shape.ways way × ((column : ℕ) → Contains columns column ↔ Contains way column)

-- The row holds at the column of each input its code.
abbrev pub holds_all : List Input → List ℕ → Bool
holds_all inputs row = list_all (λ input. slice_index_or row input.column 0 == input.code) inputs
