-- What steps mean, as a relation over the rows that fragments hold. A row of a fragment is a fact whose relation is the fragment's number.
use Rattle.std.specs.Prelude.{◌≡◌, ℕ, List, [], ◌∷◌, ◌++◌, Option, Some, slice_get, map, Contains}
use Rattle.esto_semantics.specs.declared.fact.Fact.{Fact}
use Rattle.esto_steps.specs.declared.steps.Get.{Get}
use Rattle.esto_steps.specs.declared.steps.Link.{Link}
use Rattle.esto_steps.specs.declared.steps.Source.{Source}
use Rattle.esto_steps.specs.declared.steps.Source.TheVariants.{Code, Cell}
use Rattle.esto_steps.specs.declared.steps.Steps.{Steps}

-- The code that a source names in the cells of a row.
abbrev pub code_at : List ℕ → Source → Option ℕ
code_at cells (Code code) = Some code
code_at cells (Cell place) = slice_get cells place

-- The row holds at the link's column the code that its source names in the cells.
abbrev pub IsMet : List ℕ → List ℕ → Link → Type 0
IsMet cells row link = (code : ℕ) × (slice_get row link.column ≡ Some code) × (code_at cells link.source ≡ Some code)

-- The fragment's row follows the cells of a row so far: it meets the inputs, whose sources are in these cells, and the filters, whose sources may be in the row
-- itself too.
pub record Follows (get : Get) (cells row : List ℕ) : Type 0 where
  pub inputs : (link : Link) → Contains get.inputs link → IsMet cells row link
  pub filters : (link : Link) → Contains get.filters link → IsMet (cells ++ row) row link

-- The gets lead from the cells of a row so far to those of a row at the end: each puts a row of its fragment that follows after the row so far.
abbrev pub Leads : (Fact ℕ → Type 0) → List Get → List ℕ → List ℕ → Type 0
Leads Holds [] cells end = cells ≡ end
Leads Holds (get ∷ rest) cells end =
    (row : List ℕ) × Holds (record { relation = get.fragment; terms = row }) × Follows get cells row × Leads Holds rest (cells ++ row) end

-- The row is a result of the steps: the codes of the head in a row to which the gets lead from the empty one.
abbrev pub IsResult : (Fact ℕ → Type 0) → Steps → List ℕ → Type 0
IsResult Holds steps row = (end : List ℕ) × Leads Holds steps.gets [] end × (map (code_at end) steps.head ≡ map Some row)
