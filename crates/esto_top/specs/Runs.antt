-- What `run` answers where nothing is wrong with the files.
use Rattle.std.specs.Prelude.{◌≡◌, ◌≢◌, ◌↔◌, ℕ, ◌<◌, Bool, IsTrue, List, [], ◌∷◌, length, map, slice_get, Contains, Option, Some, None, codes}
use Rattle.esto_mapping.specs.declared.catalogue.Catalogue.{Catalogue}
use Rattle.esto_chase_laws.specs.declared.clash.Clash.{Clash}
use Rattle.esto_constraint.specs.Constraints.{rules_of}
use Rattle.esto_list.specs.declared.listing.Listed.{Listed}
use Rattle.esto_ports.specs.Files.{Files}
use Rattle.esto_query.specs.Making.{query_of}
use Rattle.esto_query.specs.declared.query.Query.{Query}
use Rattle.esto_run.specs.Answers.{IsAnswersText, rows_text}
use Rattle.esto_run.specs.Laws.{FilesHoldViewRows}
use Rattle.esto_stores.specs.Rows.{Row}
use Rattle.esto_semantics.specs.Facts.{Database}
use Rattle.esto_semantics.specs.Listed.{candidate}
use Rattle.esto_semantics.specs.Queries.{ConjunctiveQuery, IsAnswer}
use Rattle.esto_semantics.specs.Rules.{Meets}
use Rattle.esto_semantics.specs.declared.fact.Fact.{Fact}
use Rattle.esto_semantics.specs.declared.fact.Value.{Value}
use Rattle.esto_semantics.specs.declared.fact.Value.TheVariants.{Text}
use Rattle.esto_term.specs.declared.term.Term.{Term}
use Rattle.esto_views.specs.Fragments.{views_of}
use Rattle.esto_views.specs.Plans.{plan_query}
use Rattle.esto_views.specs.declared.plan.Plan.{Plan}
use Rattle.esto_status.specs.Line.{line_of}
use Rattle.esto_run.specs.Fragments.{IsReadableFragment}
use Rattle.esto_top.specs.Call.{Call, HoldsOfPut, WhereTold}
use Rattle.esto_top.specs.Grammar.{is_list_number, value_of}
use Rattle.esto_top.specs.Headline.{FilesSay, HasAnswers, Rewrites}
use Rattle.esto_top.specs.Outcome.{Outcome}
use Rattle.esto_top.specs.Run.{IsRunText}
use Rattle.esto_status.specs.declared.status.Status.{Status}
use Rattle.esto_status.specs.declared.status.Status.TheVariants as status
use Rattle.esto_rewriting.specs.Choice.{IsPlace}
use Rattle.esto_rewriting.specs.Listing.{IsClash, IsListOf, IsPlanned}

-- ---- the words and the files

-- The words ask for the run of the pick, or of the set of that number of the list.
abbrev pub AsksRun : List (List ℕ) → List ℕ → List ℕ → Option ℕ → Type 0
AsksRun words catalogue_name query_name None = words ≡ codes "run" ∷ catalogue_name ∷ query_name ∷ []
AsksRun words catalogue_name query_name (Some number) =
    (word : List ℕ) × IsTrue (is_list_number word) × (number ≡ value_of word) × (words ≡ codes "run" ∷ catalogue_name ∷ query_name ∷ word ∷ [])

-- The query has a plan, a set of its list is the pick or has the number, and the files of the fragments that the set uses are readable, with these contents.
pub record CanRun (files : Files) (catalogue : Catalogue) (query : Query) (number : Option ℕ) : Type 0 where
  pub plan : Plan
  pub planned : IsPlanned catalogue query plan
  pub items : List Listed
  pub list : IsListOf catalogue query plan items
  pub place : ℕ
  pub chosen : IsPlace items number place
  pub item : Listed
  pub there : slice_get items place ≡ Some item
  pub contents : ℕ → List ℕ
  pub readable : (atom : Fact Term) → Contains (candidate (plan_query plan) item.set).body atom
      → IsReadableFragment files catalogue atom.relation (contents atom.relation)

-- ---- the text

-- The text is that of exactly the query's answers over the database, each once, in order; and all of them are rows of texts.
pub record PrintsAnswers (query : Query) (database : Database) (text : List ℕ) : Type 0 where
  pub exact : IsAnswersText query (λ row. IsAnswer (query_of query) database (map Text row)) text
  pub texts : (values : List Value) → IsAnswer (query_of query) database values → (row : Row) × (values ≡ map Text row)

-- The text is that of exactly the answers of the set's candidate over the rows of the files. For each database that meets the catalogue's rules, and whose view
-- rows are the rows of the files for the fragments that the set uses, these are exactly the query's answers.
pub record PrintsRun (catalogue : Catalogue) (query : Query) (plan : Plan) (set : List Bool) (contents : ℕ → List ℕ) (text : List ℕ) : Type 0 where
  pub rows : IsRunText catalogue query plan set contents text
  pub answers : (database : Database) → Meets (rules_of catalogue.rules) database
      → FilesHoldViewRows (views_of catalogue.fragments) database (candidate (plan_query plan) set) catalogue.stores contents
      → PrintsAnswers query database text

-- ---- outcomes

-- What is said of each outcome of `run`, where the files say a catalogue and a query over it.
abbrev pub SaidOfRuns : (Files → Option ℕ → Catalogue → Query → Status → List ℕ → Type 0) → Type 0
SaidOfRuns Fact =
    (words : List (List ℕ)) (files : Files) (catalogue_name query_name : List ℕ) (number : Option ℕ) (catalogue : Catalogue) (query : Query) (said : Status)
    (text : List ℕ)
    → AsksRun words catalogue_name query_name number → FilesSay files catalogue_name query_name catalogue query → Outcome words files said text
    → Fact files number catalogue query said text

-- Where the query has a plan, a listed set is chosen and its fragments' files are readable, the status is Done and the text prints the run of the set.
abbrev pub RunsExactly : Files → Option ℕ → Catalogue → Query → Status → List ℕ → Type 0
RunsExactly files number catalogue query said text =
    (can : CanRun files catalogue query number) → (said ≡ status.Done) × PrintsRun catalogue query can.plan can.item.set can.contents text

-- The status is Unsatisfiable exactly where the query is.
abbrev pub RefusesRun : Catalogue → Query → Status → Type 0
RefusesRun catalogue query said = ((clash : Clash) × (said ≡ status.Unsatisfiable clash)) ↔ ¬ (HasAnswers catalogue query)

-- The clash is the one at which the query's run ends, and the text has the names of the query's head alone.
abbrev pub TellsClash : Catalogue → Query → Clash → List ℕ → Type 0
TellsClash catalogue query clash text = IsClash catalogue query clash × (text ≡ rows_text query [])

-- For a satisfiable query the status is NoRewriting exactly where the query has no executable rewriting.
abbrev pub NeedsRewriting : Files → Option ℕ → Catalogue → Query → Status → List ℕ → Type 0
NeedsRewriting files number catalogue query said text =
    HasAnswers catalogue query → (said ≡ status.NoRewriting) ↔ ((other : ConjunctiveQuery) → ¬ (Rewrites catalogue query other))

-- The number is asked for, the query has a plan whose list is not empty, and the number is above the length of this list.
pub record IsAboveList (catalogue : Catalogue) (query : Query) (number : Option ℕ) (asked count : ℕ) : Type 0 where
  pub asks : number ≡ Some asked
  pub plan : Plan
  pub planned : IsPlanned catalogue query plan
  pub items : List Listed
  pub list : IsListOf catalogue query plan items
  pub some : items ≢ []
  pub counts : length items ≡ count
  pub above : count < asked

-- The status is NoSuchNumber, with the number and the length of the query's list, exactly where the list is not empty and the number is above that.
abbrev pub NeedsNumber : Files → Option ℕ → Catalogue → Query → Status → List ℕ → Type 0
NeedsNumber files number catalogue query said text =
    (asked count : ℕ) → (said ≡ status.NoSuchNumber asked count) ↔ IsAboveList catalogue query number asked count

-- What is said of an outcome of `run`. The status is Done only where a listed set is chosen and its fragments' files are readable. Where it is Unsatisfiable,
-- with a clash, the text tells this; and the text of every status but Done is its line where the query is satisfiable.
pub record IsExactRun (files : Files) (number : Option ℕ) (catalogue : Catalogue) (query : Query) (said : Status) (text : List ℕ) : Type 0 where
  pub runs : RunsExactly files number catalogue query said text
  pub done : said ≡ status.Done → CanRun files catalogue query number
  pub unsatisfiable : RefusesRun catalogue query said
  pub clash : (clash : Clash) → said ≡ status.Unsatisfiable clash → TellsClash catalogue query clash text
  pub no_rewriting : NeedsRewriting files number catalogue query said text
  pub no_number : NeedsNumber files number catalogue query said text
  pub line : HasAnswers catalogue query → said ≢ status.Done → text ≡ line_of said

-- Each outcome of `run` is exact, where the files say a catalogue and a query over it.
abbrev pub OutcomesAreRuns : Type 0
OutcomesAreRuns = SaidOfRuns IsExactRun

-- The headline of `run`: what it puts is exact, or memory was refused and nothing put, where the words ask for a run, the files are told and say a catalogue
-- and a query over it, and neither count rose.
abbrev pub RunsWhereTold : Call → Type 0
RunsWhereTold call = WhereTold call (λ files.
    (catalogue_name query_name : List ℕ) (number : Option ℕ) (catalogue : Catalogue) (query : Query)
    → AsksRun call.words catalogue_name query_name number → FilesSay files catalogue_name query_name catalogue query
    → HoldsOfPut (IsExactRun files number catalogue query) call)
