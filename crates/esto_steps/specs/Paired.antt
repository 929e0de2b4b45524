-- Pairs of rows so far and rows of a fragment, and what is kept of them.
use Rattle.std.specs.Prelude.{◌++◌, ℕ, ◌-◌, nat_lt, cond, List, [], map, Option, Some, None, slice_get, slice_index_or, Contains}
use Rattle.esto_columns.specs.CodedRows.{CodedRows}
use Rattle.esto_steps.specs.declared.pairs.Pair.{Pair}
use Rattle.esto_steps.specs.declared.steps.Source.{Source}
use Rattle.esto_steps.specs.declared.steps.Source.TheVariants.{Code, Cell}
use Rattle.esto_steps.specs.Named.{NamesCodes}

-- The code that the source names in the cells of a row so far, which has so many, with those of a row of the fragment after them.
abbrev pub code_past : ℕ → List ℕ → List ℕ → Source → Option ℕ
code_past width cells row (Code code) = Some code
code_past width cells row (Cell place) = cond (nat_lt place width) (slice_get cells place) (slice_get row (place - width))

-- The code that the source names in the pair: in its row so far with its row of the fragment after it.
abbrev pub code_in : CodedRows → CodedRows → Pair → Source → Option ℕ
code_in so_far rows pair source =
    code_past so_far.arity (slice_index_or so_far.rows pair.left []) (slice_index_or rows.rows pair.right []) source

-- The code, or 0 where there is none.
abbrev pub code_or_zero : Option ℕ → ℕ
code_or_zero None = 0
code_or_zero (Some code) = code

-- What is kept of the pair: the codes that the sources name in it. One that names none counts as 0, which fills the place where all sources name codes anyway.
abbrev pub kept_of : List Source → CodedRows → CodedRows → Pair → List ℕ
kept_of kept so_far rows pair = map (λ source. code_or_zero (code_in so_far rows pair source)) kept

-- What is kept of the pairs, one after the other.
abbrev pub kept_rows : List Source → CodedRows → CodedRows → List Pair → List (List ℕ)
kept_rows kept so_far rows pairs = map (kept_of kept so_far rows) pairs

-- What a join gained so far: rows of its own, and pairs of which what is kept isn't put together yet.
pub record Gained : Type 0 where
  pub own : CodedRows
  pub pairs : List Pair

-- The rows that are gained: those of its own, and what is kept of the pairs.
abbrev pub gained_rows : List Source → CodedRows → CodedRows → Gained → List (List ℕ)
gained_rows kept so_far rows gained = gained.own.rows ++ kept_rows kept so_far rows gained.pairs

-- The sources name a code each in every row so far with any row of the fragment after it.
abbrev pub NameAll : List Source → List (List ℕ) → List (List ℕ) → Type 0
NameAll kept so_far rows =
    (cells row : List ℕ) → Contains so_far cells → Contains rows row → (codes : List ℕ) × NamesCodes (cells ++ row) kept codes

-- In no row so far with a row of the fragment after it do the sources all name codes.
abbrev pub NameNone : List Source → List (List ℕ) → List (List ℕ) → Type 0
NameNone kept so_far rows =
    (cells row : List ℕ) → Contains so_far cells → Contains rows row → ¬ ((codes : List ℕ) × NamesCodes (cells ++ row) kept codes)
