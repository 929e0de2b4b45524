-- What laws on runs say.
use Rattle.std.specs.Prelude.{◌≡◌, ◌↔◌, ℕ, Bool, List, map, Contains}
use Rattle.esto_docmodel.specs.declared.file.Store.{Store}
use Rattle.esto_steps.specs.Rows.{IsRowOf, held_by}
use Rattle.esto_steps.specs.Texts.{IsSafeQuery}
use Rattle.esto_semantics.specs.Access.{Patterns}
use Rattle.esto_semantics.specs.Facts.{Database}
use Rattle.esto_semantics.specs.Listed.{candidate, IsRewriting}
use Rattle.esto_semantics.specs.Queries.{ConjunctiveQuery, IsAnswer, IsAnswerInto}
use Rattle.esto_semantics.specs.Rules.{Rule, Meets}
use Rattle.esto_semantics.specs.Unions.{IsUnionFragmentAnswer}
use Rattle.esto_semantics.specs.Views.{IsViewRow}
use Rattle.esto_semantics.specs.declared.fact.Fact.{Fact}
use Rattle.esto_semantics.specs.declared.fact.Value.{Value}
use Rattle.esto_semantics.specs.declared.fact.Value.TheVariants.{Text}
use Rattle.esto_term.specs.declared.term.Term.{Term}
use Rattle.esto_stores.specs.Rows.{Row}
pub use Rattle.esto_rows.specs.Lent.{RisingRowsAreOne}
use Rattle.esto_run.specs.Opened.{AreOpened}
use Rattle.esto_docs.specs.Stores.{IsFileRow}
use Rattle.esto_run.specs.Used.{AreUsed, AreUsedByAll}

-- The row is an answer of the query over the fragments, where a predicate tells which rows they hold.
abbrev pub IsAnswerOver : (Fact (List ℕ) → Type 0) → ConjunctiveQuery → Row → Type 0
IsAnswerOver Holds query row = IsAnswerInto (λ text. text) query Holds row

-- The row is an answer of one of the queries over the fragments.
abbrev pub IsAnswerOfOne : (Fact (List ℕ) → Type 0) → List ConjunctiveQuery → Row → Type 0
IsAnswerOfOne Holds queries row = (query : ConjunctiveQuery) × Contains queries query × IsAnswerOver Holds query row

-- Each fragment that the query uses is one of these numbers.
abbrev pub UsesOnly : List ℕ → ConjunctiveQuery → Type 0
UsesOnly numbers query = (atom : Fact Term) → Contains query.body atom → Contains numbers atom.relation

-- Over the rows of the fragments that a query uses, which are those of their files, its answers are those over the files.
abbrev pub AnswersAreOverFiles : Type 0
AnswersAreOverFiles =
    (stores : List Store) (files : ℕ → List ℕ) (numbers : List ℕ) (opened : List (List Row)) (query : ConjunctiveQuery)
    → AreOpened stores files numbers opened → UsesOnly numbers query
    → (row : Row) → IsAnswerOver (IsRowOf (held_by opened)) query row ↔ IsAnswerOver (IsFileRow stores files) query row

-- The files of the fragments that the query uses hold exactly the rows of their views over the database.
abbrev pub FilesHoldViewRows : List ConjunctiveQuery → Database → ConjunctiveQuery → List Store → (ℕ → List ℕ) → Type 0
FilesHoldViewRows views database query stores files =
    (fact : Fact Value) (atom : Fact Term) → Contains query.body atom → atom.relation ≡ fact.relation
    → IsViewRow views database fact
    ↔ ((row : Row) × IsFileRow stores files (record { relation = fact.relation; terms = row }) × (fact.terms ≡ map Text row))

-- For each database that meets the rules, and of which the files of the fragments that a rewriting's set uses hold the view rows, the answers of the set's
-- candidate over the files are exactly the query's.
abbrev pub RewritingsAnswerQueries : Type 0
RewritingsAnswerQueries =
    (rules : List Rule) (views : List ConjunctiveQuery) (patterns : Patterns) (query plan : ConjunctiveQuery) (set : List Bool) (stores : List Store)
    (files : ℕ → List ℕ) (database : Database)
    → IsRewriting rules views patterns query plan set → Meets rules database → FilesHoldViewRows views database (candidate plan set) stores files
    → (values : List Value)
    → IsAnswer query database values
    ↔ ((row : Row) × (values ≡ map Text row) × IsAnswerOver (IsFileRow stores files) (candidate plan set) row)

-- For each database of which the files of the fragments that queries over fragments use hold the view rows, the union's answers are exactly the rows over the
-- files that are an answer of one of them.
abbrev pub UnionsAnswerOverFiles : Type 0
UnionsAnswerOverFiles =
    (views : List ConjunctiveQuery) (database : Database) (queries : List ConjunctiveQuery) (stores : List Store) (files : ℕ → List ℕ)
    → ((query : ConjunctiveQuery) → Contains queries query → IsSafeQuery query × FilesHoldViewRows views database query stores files)
    → (values : List Value)
    → IsUnionFragmentAnswer views queries database values
    ↔ ((row : Row) × (values ≡ map Text row) × IsAnswerOfOne (IsFileRow stores files) queries row)

-- A set's fragments are one list.
abbrev pub UsedAreOne : Type 0
UsedAreOne = (atoms : List (Fact Term)) (set : List Bool) (fragments others : List ℕ)
    → AreUsed atoms set fragments → AreUsed atoms set others → fragments ≡ others

-- So are those of several queries.
abbrev pub UsedByAllAreOne : Type 0
UsedByAllAreOne = (queries : List ConjunctiveQuery) (fragments others : List ℕ)
    → AreUsedByAll queries fragments → AreUsedByAll queries others → fragments ≡ others
