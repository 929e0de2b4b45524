-- That each step of the commands comes to an end, or asks for a file that is not there.
use Rattle.std.specs.Prelude.{◌≢◌, ℕ, ◌<◌, Bool, List, [], Option, Some}
use Rattle.esto_bench.specs.Summary.{IsSummaryOfCase}
use Rattle.esto_bench.specs.declared.summary.Summary.{Summary}
use Rattle.esto_mapping.specs.declared.catalogue.Catalogue.{Catalogue}
use Rattle.esto_top.specs.Explain.{explain_course}
use Rattle.esto_top.specs.Verify.{verify_course}
use Rattle.esto_top.specs.Answer.{answer_course}
use Rattle.esto_top.specs.Audit.{audit_course}
use Rattle.esto_top.specs.Fill.{make_course}
use Rattle.esto_rewriting.specs.List.{lists_union}
use Rattle.esto_rewriting.specs.Run.{runs_union}
use Rattle.esto_list.specs.declared.listing.Listed.{Listed}
use Rattle.esto_run.specs.Fragments.{opens_fragments}
use Rattle.esto_opening.specs.Opening.{opens_catalogue, opens_query, opens_union}
use Rattle.esto_rewriting.specs.Choice.{IsItemOf}
use Rattle.esto_rewriting.specs.Listing.{IsListOf, IsListing, IsPlanned}
use Rattle.esto_rewriting.specs.Planning.{chooses, ends_query, plans_query}
use Rattle.esto_ports.specs.Files.{Files}
use Rattle.esto_query.specs.declared.query.Query.{Query}
use Rattle.esto_top.specs.Contains.{contains_course}
use Rattle.esto_top.specs.Minimise.{minimise_course}
use Rattle.esto_run.specs.Answers.{IsAnswersText}
use Rattle.esto_run.specs.Laws.{IsAnswerOver}
use Rattle.esto_docs.specs.Stores.{IsFileRow}
use Rattle.esto_run.specs.Used.{AreUsed}
use Rattle.esto_semantics.specs.Listed.{candidate}
use Rattle.esto_views.specs.Plans.{plan_query}
use Rattle.esto_views.specs.declared.plan.Plan.{Plan}
use Rattle.esto_top.specs.Ends.{AlwaysEnds, EndsOrLacks}

-- ---- what is opened

-- The file of a catalogue says one, or its first fault or least cycle is told, or it is too long, or it is not there.
abbrev pub CataloguesOpen : Type 0
CataloguesOpen = (files : Files) (name : List ℕ) → EndsOrLacks (opens_catalogue (Some files) name)

-- The file of a query over a catalogue says one, or its first fault is told, or it is too long, or it is not there.
abbrev pub QueriesOpen : Type 0
QueriesOpen = (files : Files) (name : List ℕ) (catalogue : Catalogue) → EndsOrLacks (opens_query (Some files) name catalogue)

-- So does the file of a union of queries.
abbrev pub UnionsOpen : Type 0
UnionsOpen = (files : Files) (name : List ℕ) (catalogue : Catalogue) → EndsOrLacks (opens_union (Some files) name catalogue)

-- ---- plans and lists

-- A query over a catalogue has a printed plan, or it is refused with the clash of its run.
abbrev pub QueriesArePlanned : Type 0
QueriesArePlanned = (catalogue : Catalogue) (query : Query) → AlwaysEnds (plans_query catalogue query)

-- A query over a catalogue has a printed plan or the clash of its run.
abbrev pub QueriesHaveEnds : Type 0
QueriesHaveEnds = (catalogue : Catalogue) (query : Query) → AlwaysEnds (ends_query catalogue query)

-- A printed plan has its list: its listed sets, each with its stated order and its weight.
abbrev pub PlansHaveLists : Type 0
PlansHaveLists =
    (catalogue : Catalogue) (query : Query) (plan : Plan) → IsPlanned catalogue query plan → (items : List Listed) × IsListOf catalogue query plan items

-- A printed plan has the text of its list.
abbrev pub PlansHaveTexts : Type 0
PlansHaveTexts =
    (catalogue : Catalogue) (query : Query) (plan : Plan) → IsPlanned catalogue query plan → (text : List ℕ) × IsListing catalogue query plan text

-- Of a list an item is the pick, or has the number that is asked for; or it is told that none does.
abbrev pub ItemsAreChosen : Type 0
ItemsAreChosen = (items : List Listed) (number : Option ℕ) → AlwaysEnds (chooses items number)

-- ---- the run of a set

-- A set of a plan's atoms uses some of the fragments, each once.
abbrev pub SetsUseFragments : Type 0
SetsUseFragments = (plan : Plan) (set : List Bool) → (numbers : List ℕ) × AreUsed (plan_query plan).body set numbers

-- What is so of each listed set of a printed plan, of whatever files and of the fragments that the set uses.
abbrev pub HoldsOfSets : (Files → Catalogue → Query → Plan → Listed → List ℕ → Type 0) → Type 0
HoldsOfSets Fact =
    (files : Files) (catalogue : Catalogue) (query : Query) (plan : Plan) (item : Listed) (numbers : List ℕ)
    → IsPlanned catalogue query plan → IsItemOf catalogue query plan item → AreUsed (plan_query plan).body item.set numbers
    → Fact files catalogue query plan item numbers

-- The files of the fragments that a listed set uses are opened, or the first that can't be is told of, or is not there.
abbrev pub SetsOpen : Type 0
SetsOpen = HoldsOfSets (λ files catalogue query plan item numbers. EndsOrLacks (opens_fragments (Some files) catalogue numbers))

-- Where they are opened, the answers of the set's candidate over the rows of the files have a text.
abbrev pub SetsHaveRows : Type 0
SetsHaveRows = HoldsOfSets (λ files catalogue query plan item numbers.
    (contents : ℕ → List ℕ) → (opens_fragments (Some files) catalogue numbers).goes contents
    → (text : List ℕ) × IsAnswersText query (IsAnswerOver (IsFileRow catalogue.stores contents) (candidate (plan_query plan) item.set)) text)

-- ---- unions

-- A union of queries has the text of its members with their lists in it, or it is refused with a clash.
abbrev pub UnionsAreListed : Type 0
UnionsAreListed = (catalogue : Catalogue) (queries : List Query) → queries ≢ [] → AlwaysEnds (lists_union catalogue queries)

-- A union of queries is run, or it is told why it is not, or a fragment's file is not there.
abbrev pub UnionsAreRun : Type 0
UnionsAreRun =
    (files : Files) (catalogue : Catalogue) (queries : List Query) → queries ≢ [] → (number : Option ℕ)
    → EndsOrLacks (runs_union (Some files) catalogue queries number)

-- ---- commands

-- `answer` comes to an end, or asks for a file that is not there.
abbrev pub AnswersEnd : Type 0
AnswersEnd = (files : Files) (catalogue_name query_name : List ℕ) → EndsOrLacks (answer_course (Some files) catalogue_name query_name)

-- So does `fill`: it has a text that is made of the rows of the fragment's view, or a cause for which there is none.
abbrev pub FillsEnd : Type 0
FillsEnd = (files : Files) (catalogue_name name : List ℕ) → EndsOrLacks (make_course (Some files) catalogue_name name)

-- So does `audit`.
abbrev pub AuditsEnd : Type 0
AuditsEnd = (files : Files) (catalogue_name : List ℕ) → EndsOrLacks (audit_course (Some files) catalogue_name)

-- So does `contains`.
abbrev pub ContainmentsEnd : Type 0
ContainmentsEnd =
    (files : Files) (catalogue_name left_name right_name : List ℕ) → EndsOrLacks (contains_course (Some files) catalogue_name left_name right_name)

-- So does `minimise`.
abbrev pub MinimisationsEnd : Type 0
MinimisationsEnd = (files : Files) (catalogue_name query_name : List ℕ) → EndsOrLacks (minimise_course (Some files) catalogue_name query_name)

-- So does `verify`, for whatever numbers: whatever bytes have a verdict.
abbrev pub VerificationsEnd : Type 0
VerificationsEnd =
    (files : Files) (catalogue_name query_name numbers file : List ℕ) → EndsOrLacks (verify_course (Some files) catalogue_name query_name numbers file)

-- So does `explain`: each set that has a number has a certificate that is accepted.
abbrev pub ExplanationsEnd : Type 0
ExplanationsEnd =
    (files : Files) (catalogue_name query_name : List ℕ) (number : ℕ) → EndsOrLacks (explain_course (Some files) catalogue_name query_name number)

-- The made case of each size above 0 has a summary.
abbrev pub CasesHaveSummaries : Type 0
CasesHaveSummaries = (size : ℕ) → 0 < size → (summary : Summary) × IsSummaryOfCase size summary
