-- The answers of a query, and those of a rewriting over files that agree.
use Rattle.std.proofs.Common.{◌≡◌, ◌↔◌, ℕ, List, map, Contains, refl, sym, subst}
use Rattle.esto_docmodel.specs.declared.file.Store.{Store}
use Rattle.esto_docs.specs.Stores.{IsFileRow}
use Rattle.esto_run.specs.Answers.{AreRising}
use Rattle.esto_run.specs.Laws.{FilesHoldViewRows, IsAnswerOver, RewritingsAnswerQueries}
use Rattle.esto_semantics.specs.Facts.{Database}
use Rattle.esto_semantics.specs.Listed.{candidate}
use Rattle.esto_semantics.specs.Queries.{ConjunctiveQuery, IsAnswer}
use Rattle.esto_semantics.specs.declared.fact.Value.{Value}
use Rattle.esto_semantics.specs.declared.fact.Value.TheVariants.{Text}
use Rattle.esto_semantics.proofs.ValueLemmas.{same_texts}
use Rattle.esto_stores.specs.Rows.{Row}
use Rattle.esto_fill.specs.Differences.{HoldViewRows}
use Rattle.esto_fill.specs.Texts.{AreTextsOf}
use Rattle.esto_fill.proofs.FilledLemmas.{in_rows}
use Rattle.esto_data.specs.Agreement.{AgreeingAnswersAreTexts, AgreeingAnswersAreOne}

files_hold : (views : List ConjunctiveQuery) (database : Database) (query : ConjunctiveQuery) (stores : List Store) (files : ℕ → List ℕ)
    → HoldViewRows views database (IsFileRow stores files) → FilesHoldViewRows views database query stores files
files_hold views database query stores files hold fact atom inside same = hold fact

pub texts_agree : (law : RewritingsAnswerQueries) → AgreeingAnswersAreTexts
texts_agree law rules views patterns query plan set stores files database rewriting agree values answers =
    let found = (law rules views patterns query plan set stores files database rewriting agree.meets
    (files_hold views database (candidate plan set) stores files agree.rows) values).0 answers in
    (found.0, found.1)

pub answers_agree : (law : RewritingsAnswerQueries) → AgreeingAnswersAreOne
answers_agree law rules views patterns query plan set stores files database rows rewriting agree = (there, back)
  where
    Over : Row → Type 0
    Over row = IsAnswerOver (IsFileRow stores files) (candidate plan set) row

    over : (values : List Value) → IsAnswer query database values ↔ ((row : Row) × (values ≡ map Text row) × Over row)
    over = law rules views patterns query plan set stores files database rewriting agree.meets
        (files_hold views database (candidate plan set) stores files agree.rows)

    of_row : (row : Row) → IsAnswer query database (map Text row) ↔ Over row
    of_row row = (
      (λ answers. let found = (over (map Text row)).0 answers in subst Over (sym (same_texts row found.0 found.1)) found.2),
      (λ there. (over (map Text row)).1 (row, refl, there)),
    )

    there : AreTextsOf (IsAnswer query database) rows → ((row : Row) → Contains rows row ↔ Over row) × AreRising rows
    there are = (
      (λ row. (
        (λ inside. (of_row row).0 ((in_rows (IsAnswer query database) rows are.exact row).0 inside)),
        (λ answers. (in_rows (IsAnswer query database) rows are.exact row).1 ((of_row row).1 answers)),
      )),
      are.rising,
    )

    back : ((row : Row) → Contains rows row ↔ Over row) × AreRising rows → AreTextsOf (IsAnswer query database) rows
    back (same, rising) = record {
      exact = λ values. (
        (λ answers. let found = (over values).0 answers in (found.0, (same found.0).1 found.2, found.1)),
        (λ (row, inside, is). (over values).1 (row, is, (same row).0 inside)),
      );
      rising = rising;
    }
