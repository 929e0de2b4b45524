-- Texts of runs over catalogues that say the same.
use Rattle.std.proofs.Common.{◌≡◌, ℕ, Bool, List, map, sym, ap, subst, ◌∙◌}
use Rattle.esto_mapping.specs.Catalogues.{AreSame, stored_as}
use Rattle.esto_mapping.specs.declared.catalogue.Catalogue.{Catalogue}
use Rattle.esto_docmodel.specs.declared.file.Store.{Store}
use Rattle.esto_query.specs.declared.query.Query.{Query}
use Rattle.esto_run.specs.Answers.{IsAnswersText, rows_text}
use Rattle.esto_run.specs.Laws.{IsAnswerOver, RisingRowsAreOne}
use Rattle.esto_docs.specs.Stores.{IsFileRow}
use Rattle.esto_semantics.specs.Facts.{image}
use Rattle.esto_semantics.specs.Listed.{candidate}
use Rattle.esto_semantics.specs.Queries.{ConjunctiveQuery}
use Rattle.esto_stores.specs.Rows.{Row}
use Rattle.esto_views.specs.declared.plan.Plan.{Plan}
use Rattle.esto_top.specs.Run.{IsRunText}
use Rattle.esto_query.specs.Same.{IsSameQuery}
use Rattle.esto_run.specs.FragmentsAlike.{StoresHaveOneContent}
use Rattle.esto_run.proofs.RowsTextLemmas.{same_rows_text}
use Rattle.esto_rewriting.specs.Alike.{IsSamePlan}

-- a set of rows has one text
pub one_text : RisingRowsAreOne → (query : Query) (Has : Row → Type 0) (text other : List ℕ) → IsAnswersText query Has text → IsAnswersText query Has other
    → text ≡ other
one_text one query Has text other is is_other =
    let rows : is.rows ≡ is_other.rows = one is.rows is_other.rows is.rising is_other.rising
    (λ row. (λ inside. (is_other.exact row).1 ((is.exact row).0 inside), λ inside. (is.exact row).1 ((is_other.exact row).0 inside))) in
    is.printed ∙ ap (rows_text query) rows ∙ sym is_other.printed

module _ (one_content : StoresHaveOneContent) where
  -- an answer over the files in one of the stores is one over those in the other
  answer_moved : (stores others : List Store) → map stored_as stores ≡ map stored_as others → (contents : ℕ → List ℕ) (query : ConjunctiveQuery) (row : Row)
      → IsAnswerOver (IsFileRow others contents) query row → IsAnswerOver (IsFileRow stores contents) query row
  answer_moved stores others same contents query row (m, keeps, sends, is) =
      (m, keeps, λ fact inside. (one_content stores others contents (image m fact) same).1 (sends fact inside), is)

  -- a text over the other catalogue, query and plan is one over these
  pub run_text_moved : (catalogue other : Catalogue) → AreSame catalogue other → (query other_query : Query) → IsSameQuery query other_query
      → (plan other_plan : Plan) → IsSamePlan plan other_plan → (set : List Bool) (contents : ℕ → List ℕ) (text : List ℕ)
      → IsRunText other other_query other_plan set contents text → IsRunText catalogue query plan set contents text
  run_text_moved catalogue other alike query other_query same plan other_plan plans set contents text is =
      subst (λ (it : ConjunctiveQuery). IsAnswersText query (IsAnswerOver (IsFileRow catalogue.stores contents) (candidate it set)) text) (sym plans.0)
      (record {
        rows = is.rows;
        exact = λ row. (
          λ inside. answer_moved catalogue.stores other.stores alike.stores contents _ row ((is.exact row).0 inside),
          λ answers. (is.exact row).1 (answer_moved other.stores catalogue.stores (sym alike.stores) contents _ row answers),
        );
        rising = is.rising;
        printed = is.printed ∙ sym (same_rows_text query other_query same is.rows);
      })
