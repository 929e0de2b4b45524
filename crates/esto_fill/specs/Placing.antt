-- Rows of terms that become rows of texts.
use Rattle.std.specs.Prelude.{◌≡◌, ℕ, ◌+◌, ◌≤◌, min, List, [], ◌++◌, filter, map, slice_get, Contains, Option, Some, None, Result, Ok, Err}
use Rattle.esto_docmodel.specs.declared.file.Shape.{Shape}
use Rattle.esto_docmodel.specs.declared.file.Shape.TheVariants.{Keys}
use Rattle.esto_query.specs.declared.query.Name.{Name}
use Rattle.esto_relmodel.specs.Once.{AreEachOnce}
use Rattle.esto_semantics.specs.declared.fact.Value.{Value}
use Rattle.esto_stores.specs.Rows.{Row}
use Rattle.esto_term.specs.Kinds.{IsConstant}
use Rattle.esto_term.specs.declared.term.Term.{Term, out-Term}
use Rattle.esto_term.specs.declared.term.Term.TheOpen.{Term-F}
use Rattle.esto_fill.specs.Databases.{value_of}
use Rattle.esto_fill.specs.Filled.{CanHold, IsFirstUnfit, text_in}
use Rattle.esto_fill.specs.Records.{is_named}
use Rattle.esto_fill.specs.declared.rows.AnswerError.{AnswerError}
use Rattle.esto_fill.specs.declared.rows.AnswerError.TheVariants as answer
use Rattle.esto_fill.specs.declared.filled.FillError.{FillError}
use Rattle.esto_fill.specs.declared.filled.FillError.TheVariants.{NodeInRow, KeyText, OutOfMemory}

-- ---- rows of terms and rows of texts

-- The text of a constant; no bytes for a term of another kind.
abbrev pub text_by_kind : Term-F Term → List ℕ
text_by_kind (Term-F.Const text) = text
text_by_kind (Term-F.Plain _) = []
text_by_kind (Term-F.Made _ _ _) = []

-- The text of a term that is a constant; no bytes for another.
abbrev pub text_of : Term → List ℕ
text_of term = text_by_kind (out-Term term)

-- The row of values is that of one of these rows of terms.
abbrev pub IsImageOf : List (List Term) → List Value → Type 0
IsImageOf rows values = (row : List Term) × Contains rows row × (values ≡ map value_of row)

-- Each term of each of the rows is a constant.
abbrev pub AreConstant : List (List Term) → Type 0
AreConstant rows = (row : List Term) (term : Term) → Contains rows row → Contains row term → IsConstant term

-- The row has in that place, counted from 0, another term than a constant.
abbrev pub IsOpenAt : List Term → ℕ → Type 0
IsOpenAt row place = (term : Term) × (slice_get row place ≡ Some term) × ¬ (IsConstant term)

-- It is the least place in which one of the rows has another term than a constant, or none of them has one.
abbrev pub LeastOpen : List (List Term) → Option ℕ → Type 0
LeastOpen rows None = AreConstant rows
LeastOpen rows (Some place) =
    ((row : List Term) × Contains rows row × IsOpenAt row place) × ((row : List Term) (other : ℕ) → Contains rows row → IsOpenAt row other → place ≤ other)

-- The lesser of two places, of which either may be absent.
abbrev pub lesser : Option ℕ → Option ℕ → Option ℕ
lesser None other = other
lesser (Some place) None = Some place
lesser (Some place) (Some other) = Some (min place other)

-- The error names the column of the place, counted from 1; or memory is wanting.
abbrev pub NamesColumn : ℕ → AnswerError → Type 0
NamesColumn place (answer.NodeInRow column) = column ≡ place + 1
NamesColumn place answer.OutOfMemory = Unit {0}

-- ---- the text of rows

-- The text of the rows in the shape, which can hold them; or the first cell that keys can't hold; or memory is wanting.
abbrev pub WritesRows : Shape → List Row → Result (List ℕ) FillError → Type 0
WritesRows shape rows (Ok text) = CanHold shape rows × (text ≡ text_in shape rows)
WritesRows shape rows (Err (KeyText cell)) = (shape ≡ Keys) × IsFirstUnfit rows cell
WritesRows shape rows (Err (NodeInRow column)) = ⊥
WritesRows shape rows (Err OutOfMemory) = Unit {0}

-- ---- the variables of a rule

-- The named variables among the terms come to the others, each once.
abbrev pub AddsNamed : List Name → List Term → List Term → List Term → Type 0
AddsNamed names terms old new = (things : List Term) → AreEachOnce things old → AreEachOnce (things ++ filter (is_named names) terms) new
