-- What laws on datasets' facts and fragments' rows say.
use Rattle.std.specs.Prelude.{◌≡◌, ◌≢◌, ◌↔◌, ℕ, List, map, Contains, Option, Result, Err}
use Rattle.esto_mapping.specs.Catalogues.{stored_as}
use Rattle.esto_docmodel.specs.declared.file.Store.{Store}
use Rattle.esto_mapping.specs.declared.dataset.Dataset.{Dataset}
use Rattle.esto_semantics.specs.Rules.{AreMet}
use Rattle.esto_steps.specs.Rows.{IsRowOf, held_by}
use Rattle.esto_ports.specs.declared.file_fault.FileFault.{FileFault}
use Rattle.esto_query.specs.declared.query.Name.{Name}
use Rattle.esto_docs.specs.Stores.{IsFileRow}
use Rattle.esto_semantics.specs.Facts.{Database}
use Rattle.esto_semantics.specs.Maps.{AreFlat}
use Rattle.esto_semantics.specs.Queries.{ConjunctiveQuery, IsAnswer}
use Rattle.esto_semantics.specs.Rules.{Rule, AreRules}
use Rattle.esto_semantics.specs.Standing.{Stands}
use Rattle.esto_semantics.specs.Unions.{IsUnionAnswer}
use Rattle.esto_semantics.specs.declared.fact.Fact.{Fact}
use Rattle.esto_semantics.specs.declared.fact.Value.{Value}
use Rattle.esto_semantics.specs.declared.fact.Value.TheVariants.{Text}
use Rattle.esto_stores.specs.Rows.{Row}
use Rattle.esto_term.specs.declared.term.Term.{Term}
use Rattle.esto_fill.specs.Databases.{value_of, database_of}
use Rattle.esto_fill.specs.Differences.{Audits}
use Rattle.esto_fill.specs.Files.{AreApart, AreFactsFrom, AreReadable, HasRelation, HaveRisingNames, IsFirstFault}
use Rattle.esto_fill.specs.Filled.{Fills}
use Rattle.esto_fill.specs.Texts.{GivesTexts, HaveTextsOnly, JudgesViews}
use Rattle.esto_ports.specs.declared.difference.Difference.{Difference}
use Rattle.esto_fill.specs.declared.datasets.DatasetBytes.{DatasetBytes}
use Rattle.esto_fill.specs.declared.filled.FillError.{FillError}
use Rattle.esto_fill.specs.declared.filled.FillError.TheVariants as filled
use Rattle.esto_fill.specs.declared.loaded.Loaded.{Loaded}
use Rattle.esto_fill.specs.declared.rows.AnswerError.{AnswerError}
use Rattle.esto_fill.specs.declared.rows.AnswerError.TheVariants as answer
use Rattle.esto_fill.specs.Lawful.{AreLaws}
use Rattle.esto_fill.specs.Wanted.{HasAsked}

-- The facts of each value that is loaded are over constants and plain terms.
abbrev pub LoadedAreFlat : Type 0
LoadedAreFlat = (loaded : Loaded) → AreFlat loaded.facts

-- The facts of files, of which no two are of one dataset, meet each rule of documents whose relations no other dataset has, where the names of fields rise.
abbrev pub DocumentsAreLawful : Type 0
DocumentsAreLawful =
    (datasets : List Dataset) (files : List DatasetBytes) (first : ℕ) (facts : List (Fact Term)) (next : ℕ) (rules : List Rule) → AreApart files
    → HaveRisingNames datasets files → AreFactsFrom datasets first files facts next → AreLaws datasets rules
    → AreMet facts rules

-- Facts over constants and plain terms are stood for by their database.
abbrev pub FactsStand : Type 0
FactsStand = (facts : List (Fact Term)) → AreFlat facts → Stands facts value_of (database_of facts)

-- ---- what is determined

-- Files have one list of facts and one number of nodes.
abbrev pub FactsAreOne : Type 0
FactsAreOne =
    (datasets : List Dataset) (first : ℕ) (files : List DatasetBytes) (facts others : List (Fact Term)) (next other : ℕ)
    → AreFactsFrom datasets first files facts next → AreFactsFrom datasets first files others other → (facts ≡ others) × (next ≡ other)

-- Files have one first fault.
abbrev pub FaultsAreOne : Type 0
FaultsAreOne =
    (datasets : List Dataset) (files : List DatasetBytes) (number other : ℕ) (fault cause : FileFault) → IsFirstFault datasets files number fault
    → IsFirstFault datasets files other cause
    → (number ≡ other) × (fault ≡ cause)

-- Files without a fault have no first one.
abbrev pub ReadableHaveNone : Type 0
ReadableHaveNone =
    (datasets : List Dataset) (files : List DatasetBytes) (number : ℕ) (fault : FileFault) → AreReadable datasets files
    → IsFirstFault datasets files number fault → ⊥

-- A query's answers over a database are given in one way, where memory is not wanting.
abbrev pub AnswersAreOne : Type 0
AnswersAreOne =
    (query : ConjunctiveQuery) (database : Database) (result other : Result (List Row) AnswerError)
    → GivesTexts (IsAnswer query database) result → GivesTexts (IsAnswer query database) other → result ≢ Err answer.OutOfMemory
    → other ≢ Err answer.OutOfMemory
    → result ≡ other

-- And so are those of a union of queries.
abbrev pub UnionAnswersAreOne : Type 0
UnionAnswersAreOne =
    (queries : List ConjunctiveQuery) (database : Database) (result other : Result (List Row) AnswerError)
    → GivesTexts (IsUnionAnswer queries database) result → GivesTexts (IsUnionAnswer queries database) other → result ≢ Err answer.OutOfMemory
    → other ≢ Err answer.OutOfMemory
    → result ≡ other

-- Views are judged in one way over a database.
abbrev pub JudgementsAreOne : Type 0
JudgementsAreOne =
    (views : List ConjunctiveQuery) (database : Database) (result other : Result (Unit {0}) AnswerError)
    → JudgesViews views database result → JudgesViews views database other → result ≢ Err answer.OutOfMemory → other ≢ Err answer.OutOfMemory
    → result ≡ other

-- The files of two stores that say the same are filled in one way with a view's rows over a database.
abbrev pub FillsAreOne : Type 0
FillsAreOne =
    (store its : Store) (view : ConjunctiveQuery) (database : Database) (result other : Result (List ℕ) FillError)
    → stored_as store ≡ stored_as its → Fills store.shape (IsAnswer view database) result → Fills its.shape (IsAnswer view database) other
    → result ≢ Err filled.OutOfMemory → other ≢ Err filled.OutOfMemory
    → result ≡ other

-- An audit of facts comes to one end over files that hold the same rows.
abbrev pub AuditsAreOne : Type 0
AuditsAreOne =
    (rules : List Rule) (names : List (List Name)) (fragments : List (List ℕ)) (views : List ConjunctiveQuery) (facts : List (Fact Term))
    (stores others : List Store) (files contents : ℕ → List ℕ) (result other : Option Difference)
    → AreRules rules → AreFlat facts → ((fact : Fact (List ℕ)) → IsFileRow stores files fact ↔ IsFileRow others contents fact)
    → Audits rules names fragments views facts (IsFileRow stores files) result
    → Audits rules names fragments views facts (IsFileRow others contents) other
    → result ≡ other

-- ---- which datasets count

-- Over the facts of some of the files, among which is each whose dataset has a relation of the query, the query has the answers of texts that it has over the
-- facts of all, although their nodes have other numbers; and where over all it has no other answers, it has none there.
abbrev pub AnswersRestOnDatasets : Type 0
AnswersRestOnDatasets =
    (datasets : List Dataset) (all some : List DatasetBytes) (facts others : List (Fact Term)) (next other : ℕ) (query : ConjunctiveQuery)
    → AreApart all → AreApart some → ((file : DatasetBytes) → Contains some file → Contains all file)
    → ((atom : Fact Term) (file : DatasetBytes) → Contains query.body atom → Contains all file → HasRelation datasets file.dataset atom.relation
    → Contains some file)
    → AreFactsFrom datasets 0 all facts next → AreFactsFrom datasets 0 some others other
    → ((row : Row) → IsAnswer query (database_of facts) (map Text row) ↔ IsAnswer query (database_of others) (map Text row))
    × (HaveTextsOnly (IsAnswer query (database_of facts)) → HaveTextsOnly (IsAnswer query (database_of others)))

-- Over some of the facts, among which is each to which an atom of one of the bodies can go, a query with one of the bodies has the answers that it has over all
-- facts.
abbrev pub AnswersRestOnWantedFacts : Type 0
AnswersRestOnWantedFacts =
    (bodies : List (List (Fact Term))) (facts some : List (Fact Term)) (query : ConjunctiveQuery) (values : List Value) → HasAsked bodies facts some
    → Contains bodies query.body
    → IsAnswer query (database_of some) values ↔ IsAnswer query (database_of facts) values

-- ---- rows and files

-- An audit of rows is one of the files of which they are the rows.
abbrev pub AuditsAreOverFiles : Type 0
AuditsAreOverFiles =
    (rules : List Rule) (names : List (List Name)) (fragments : List (List ℕ)) (views : List ConjunctiveQuery) (facts : List (Fact Term))
    (stores : List Store) (files : ℕ → List ℕ) (rows : List (List Row)) (result : Option Difference)
    → ((fact : Fact (List ℕ)) → IsRowOf (held_by rows) fact ↔ IsFileRow stores files fact)
    → Audits rules names fragments views facts (IsRowOf (held_by rows)) result ↔ Audits rules names fragments views facts (IsFileRow stores files) result
