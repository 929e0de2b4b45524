-- Shapes of files, and which of them are for a view.
use Rattle.std.specs.Prelude.{◌≡◌, ◌≢◌, ℕ, List, [], ◌∷◌, false, nat_eq, length, AllPairs}
use Rattle.std.specs.List.{starts_with}
use Rattle.esto_ports.specs.declared.mark.TheConstants.{MARK}
use Rattle.esto_query.specs.declared.query.Query.{Query}
use Rattle.esto_docmodel.specs.Layouts.{IsLayout}
use Rattle.esto_docmodel.specs.Shapes.{entries_of}
use Rattle.esto_docmodel.specs.declared.file.Shape.{Shape}
use Rattle.esto_docmodel.specs.declared.file.Shape.TheVariants.{Table, Documents, Keys}

-- The first text, where there is one, does not begin with a byte-order mark.
abbrev pub begins_plain : List (List ℕ) → Type 0
begins_plain [] = Unit {0}
begins_plain (first ∷ rest) = starts_with nat_eq first MARK ≡ false

-- The columns fit the view: they are as many as its head has terms, no two are the same, and the first does not begin with a byte-order mark.
pub record FitView (view : Query) (columns : List (List ℕ)) : Type 0 where
  pub many : length columns ≡ length view.head
  pub distinct : AllPairs ◌≢◌ columns
  pub plain : begins_plain columns

-- The shape is one for the view: the columns of a table fit it, and the pattern of documents is a layout for as many columns.
abbrev pub IsShapeFor : Shape → Query → Type 0
IsShapeFor (Table columns) view = FitView view columns
IsShapeFor (Documents layout pattern) view = IsLayout (length view.head) (entries_of pattern.entries)
IsShapeFor Keys view = Unit {0}
