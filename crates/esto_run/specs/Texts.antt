-- The text of rows of answers of a union.
use Rattle.std.specs.Prelude.{◌≡◌, ℕ, List, [], ◌∷◌, length, All, Contains}
use Rattle.esto_query.specs.declared.query.Query.{Query}
use Rattle.esto_run.specs.Answers.{rows_text}
use Rattle.esto_stores.specs.Rows.{Row}

-- The text of rows under the names of the first query's head.
abbrev pub union_rows_text : List Query → List Row → List ℕ
union_rows_text [] rows = []
union_rows_text (query ∷ queries) rows = rows_text query rows

-- Each row has as many cells as each query's head has terms.
abbrev pub FitHeads : List Query → List Row → Type 0
FitHeads queries rows = (query : Query) → Contains queries query → All (λ row. length row ≡ length query.head) rows
