-- The text of rows.
use Rattle.std.proofs.Common.{◌≡◌, ◌↔◌, ℕ, List, [], ◌∷◌, slice_get, Some, sym, ap, ◌∙◌, map}
use Rattle.std.proofs.lemmas.Option.{same_Some}
use Rattle.esto_query.specs.declared.query.Query.{Query}
use Rattle.esto_run.specs.Answers.{IsAnswersText, rows_text, level_name}
use Rattle.esto_stores.specs.Rows.{Row}
use Rattle.esto_run.specs.Texts.{union_rows_text}
use Rattle.esto_stores.specs.TableText.{table_text}
use Rattle.esto_term.specs.declared.term.Term.{out-Term}
use Rattle.esto_query.specs.Same.{IsSameQuery}

pub first_text : (queries : List Query) (rows : List Row) (query : Query) (text : List ℕ) → slice_get queries 0 ≡ Some query → text ≡ rows_text query rows
    → text ≡ union_rows_text queries rows
first_text [] rows query text at is = absurd (cc)
first_text (first ∷ rest) rows query text at is =
    let same : first ≡ query = same_Some first query at in
    is ∙ ap (λ (it : Query). rows_text it rows) (sym same)

-- rows have one text under the names of one head
pub same_rows_text : (query other : Query) → IsSameQuery query other → (rows : List Row) → rows_text query rows ≡ rows_text other rows
same_rows_text query other same rows = λ i. table_text (map (λ term. level_name (same.names i) (out-Term term)) (same.head i)) rows

-- the text of rows is that of the same rows
pub same_rows : (query : Query) (Has Other : Row → Type 0) (text : List ℕ) → ((row : Row) → Has row ↔ Other row) → IsAnswersText query Has text
    → IsAnswersText query Other text
same_rows query Has Other text same is = record {
  rows = is.rows;
  exact = λ row. (λ inside. (same row).0 ((is.exact row).0 inside), λ other. (is.exact row).1 ((same row).1 other));
  rising = is.rising;
  printed = is.printed;
}
