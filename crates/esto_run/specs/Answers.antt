-- The answers of a query in print.
use Rattle.std.specs.Prelude.{◌≡◌, ◌↔◌, ℕ, List, [], Option, Some, None, map, slice_get, Contains}
use Rattle.esto_term.specs.declared.term.Term.{Term, out-Term}
use Rattle.esto_term.specs.declared.term.Term.TheOpen.{Term-F}
use Rattle.esto_query.specs.declared.query.Name.{Name}
use Rattle.esto_query.specs.declared.query.Name.TheVariants.{Given, Hidden}
use Rattle.esto_query.specs.declared.query.Query.{Query}
pub use Rattle.esto_rows.specs.Lent.{AreRising}
use Rattle.esto_stores.specs.Rows.{Row}
use Rattle.esto_stores.specs.TableText.{table_text}

-- A name that is given; no bytes where none is.
abbrev pub given_name : Option Name → List ℕ
given_name (Some (Given name)) = name
given_name (Some Hidden) = []
given_name None = []

-- The name of one level of a term: that of the variable.
abbrev pub level_name : List Name → Term-F Term → List ℕ
level_name names (Term-F.Const _) = []
level_name names (Term-F.Plain variable) = given_name (slice_get names variable)
level_name names (Term-F.Made _ _ _) = []

-- The names of the head's variables, in order.
abbrev pub head_names : Query → Row
head_names query = map (λ term. level_name query.names (out-Term term)) query.head

-- The text of rows under the names of the query's head: a CSV record of the names, and one of each row.
abbrev pub rows_text : Query → List Row → List ℕ
rows_text query rows = table_text (head_names query) rows

-- The text is that of exactly these rows, each once, in rising order.
pub record IsAnswersText (query : Query) (Has : Row → Type 0) (text : List ℕ) : Type 0 where
  pub rows : List Row
  pub exact : (row : Row) → Contains rows row ↔ Has row
  pub rising : AreRising rows
  pub printed : text ≡ rows_text query rows
