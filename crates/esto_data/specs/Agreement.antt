-- What laws on files that agree with a database say.
use Rattle.std.specs.Prelude.{◌↔◌, ℕ, Bool, List, Contains}
use Rattle.esto_docmodel.specs.declared.file.Store.{Store}
use Rattle.esto_docs.specs.Stores.{IsFileRow}
use Rattle.esto_run.specs.Answers.{AreRising}
use Rattle.esto_run.specs.Laws.{IsAnswerOver}
use Rattle.esto_semantics.specs.Access.{Patterns}
use Rattle.esto_semantics.specs.Facts.{Database}
use Rattle.esto_semantics.specs.Listed.{candidate, IsRewriting}
use Rattle.esto_semantics.specs.Queries.{ConjunctiveQuery, IsAnswer}
use Rattle.esto_semantics.specs.Rules.{Rule}
use Rattle.esto_stores.specs.Rows.{Row}
use Rattle.esto_fill.specs.Differences.{Agree}
use Rattle.esto_fill.specs.Texts.{AreTextsOf, HaveTextsOnly}

-- Where facts and files agree, each answer of a query over the facts is a row of texts, where the query has a
-- rewriting.
abbrev pub AgreeingAnswersAreTexts : Type 0
AgreeingAnswersAreTexts =
    (rules : List Rule) (views : List ConjunctiveQuery) (patterns : Patterns) (query plan : ConjunctiveQuery) (set : List Bool) (stores : List Store)
    (files : ℕ → List ℕ) (database : Database)
    → IsRewriting rules views patterns query plan set → Agree rules views database (IsFileRow stores files) → HaveTextsOnly (IsAnswer query database)

-- And rows are the list of its answers over the facts exactly where they are that of the answers of the rewriting's
-- candidate over the files.
abbrev pub AgreeingAnswersAreOne : Type 0
AgreeingAnswersAreOne =
    (rules : List Rule) (views : List ConjunctiveQuery) (patterns : Patterns) (query plan : ConjunctiveQuery) (set : List Bool) (stores : List Store)
    (files : ℕ → List ℕ) (database : Database) (rows : List Row)
    → IsRewriting rules views patterns query plan set → Agree rules views database (IsFileRow stores files)
    → AreTextsOf (IsAnswer query database) rows
    ↔ (((row : Row) → Contains rows row ↔ IsAnswerOver (IsFileRow stores files) (candidate plan set) row) × AreRising rows)
