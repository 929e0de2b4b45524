-- The command `run` over a union.
use Rattle.std.specs.Prelude.{◌≡◌, ℕ, ◌<◌, ◌≤◌, List, [], length, filter, slice_get, Option, Some, None, Contains, MatchOption}
use Rattle.std.specs.List.{AllZip}
use Rattle.esto_mapping.specs.declared.catalogue.Catalogue.{Catalogue}
use Rattle.esto_chase_laws.specs.declared.clash.Clash.{Clash}
use Rattle.esto_course.specs.Course.{Course, judges, gives, and_then}
use Rattle.esto_list.specs.declared.listing.Listed.{Listed}
use Rattle.esto_run.specs.Fragments.{opens_fragments}
use Rattle.esto_status.specs.declared.reply.Reply.{Reply}
use Rattle.esto_status.specs.declared.reply.Reply.TheVariants.{Done, Unsatisfiable}
use Rattle.esto_status.specs.declared.status.Status.{Status}
use Rattle.esto_status.specs.declared.status.Status.TheVariants.{NoRewriting, NoSuchNumber}
use Rattle.esto_rewriting.specs.Choice.{IsPlace}
use Rattle.esto_ports.specs.Files.{Files}
use Rattle.esto_query.specs.declared.query.Query.{Query}
use Rattle.esto_run.specs.Answers.{IsAnswersText, rows_text}
use Rattle.esto_run.specs.Laws.{IsAnswerOfOne}
use Rattle.esto_docs.specs.Stores.{IsFileRow}
use Rattle.esto_run.specs.Used.{AreUsedByAll}
use Rattle.esto_semantics.specs.Listed.{candidate}
use Rattle.esto_semantics.specs.Queries.{ConjunctiveQuery}
use Rattle.esto_views.specs.Plans.{plan_query}
use Rattle.esto_views.specs.declared.plan.Plan.{Plan}
use Rattle.esto_rewriting.specs.List.{makes_members}
use Rattle.esto_rewriting.specs.Members.{ClashAt, HavePlan, OneIsEmpty, has_plan}
use Rattle.esto_rewriting.specs.declared.members.Member.{Member}
use Rattle.esto_rewriting.specs.declared.members.Member.TheVariants.{Planned, Clashed}

-- ---- the sets that are run

-- The item is the one of the list that is chosen: the pick, or that of the number.
abbrev pub IsChosen : List Listed → Option ℕ → Listed → Type 0
IsChosen items number item = (place : ℕ) × IsPlace items number place × (slice_get items place ≡ Some item)

-- The query over fragments is the candidate of the set that is chosen from the member's list.
abbrev pub IsChosenOf : Option ℕ → Member → ConjunctiveQuery → Type 0
IsChosenOf number (Planned plan items) other = (item : Listed) × IsChosen items number item × (candidate (plan_query plan) item.set ≡ other)
IsChosenOf number (Clashed clash) other = ⊥

-- The queries over fragments are those of the members that have a plan, one for each, in order.
abbrev pub AreChosen : Option ℕ → List Member → List ConjunctiveQuery → Type 0
AreChosen number members others = AllZip (IsChosenOf number) (filter has_plan members) others

-- Some member's list is as long, and none is shorter.
pub record IsLeastLength (members : List Member) (least : ℕ) : Type 0 where
  pub one : (plan : Plan) × (items : List Listed) × Contains members (Planned plan items) × (length items ≡ least)
  pub none_shorter : (plan : Plan) (items : List Listed) → Contains members (Planned plan items) → least ≤ length items

-- Why no sets are chosen: some list is empty, or the number is above the least length of the lists.
pub data HasNoChoice (members : List Member) (number : Option ℕ) (refusal : Status) : Type 0 where
  is_empty : OneIsEmpty members → refusal ≡ NoRewriting → HasNoChoice members number refusal
  is_above : (asked least : ℕ) → number ≡ Some asked → ¬ (OneIsEmpty members) → IsLeastLength members least → least < asked
      → refusal ≡ NoSuchNumber asked least → HasNoChoice members number refusal

-- The text is that of the rows over the fragments' files that are an answer of one of the queries over fragments, each once, in order, under the names of the
-- first query's head.
abbrev pub IsUnionRunText : Catalogue → List Query → List ConjunctiveQuery → (ℕ → List ℕ) → List ℕ → Type 0
IsUnionRunText catalogue queries others contents text =
    (first : Query) × (slice_get queries 0 ≡ Some first) × IsAnswersText first (IsAnswerOfOne (IsFileRow catalogue.stores contents) others) text

-- The reply tells the clash, and has the names of the first query's head alone.
abbrev pub IsNoRows : List Query → Clash → Reply → Type 0
IsNoRows queries clash reply = (first : Query) × (slice_get queries 0 ≡ Some first) × (reply ≡ Unsatisfiable clash (rows_text first []))

-- ---- the steps

-- A set of each member that has a plan is chosen; or none are.
abbrev pub chooses_each : List Member → Option ℕ → Course Status (List ConjunctiveQuery)
chooses_each members number = judges (AreChosen number members) (HasNoChoice members number)

-- The fragments that the queries over fragments use are found and their files opened, each once, in the order in which they first come; and the text of the
-- rows is the reply.
abbrev pub runs_chosen : Option Files → Catalogue → List Query → List ConjunctiveQuery → Course Status Reply
runs_chosen files catalogue queries others =
    and_then (judges (AreUsedByAll others) (λ _. ⊥)) (λ numbers.
    and_then (opens_fragments files catalogue numbers) (λ contents.
    and_then (judges (IsUnionRunText catalogue queries others contents) (λ _. ⊥)) (λ text.
    gives (Done text))))

-- Some member has a plan; or none has one, and the first one's clash ends the run.
abbrev pub ends_members : List Member → Course Status (Option Clash)
ends_members members = judges (λ end. MatchOption end (HavePlan members) (ClashAt members)) (λ _. ⊥)

-- Sets of the members that have plans are chosen and run. A union of which no query is satisfiable has no answers, and the names of the first one's head alone
-- are the text.
abbrev pub runs_end : Option Files → Catalogue → List Query → Option ℕ → List Member → Option Clash → Course Status Reply
runs_end files catalogue queries number members None = and_then (chooses_each members number) (runs_chosen files catalogue queries)
runs_end files catalogue queries number members (Some clash) = judges (IsNoRows queries clash) (λ _. ⊥)

-- The members are run.
abbrev pub runs_members : Option Files → Catalogue → List Query → Option ℕ → List Member → Course Status Reply
runs_members files catalogue queries number members = and_then (ends_members members) (runs_end files catalogue queries number members)

-- The members of the union are made and run.
abbrev pub runs_union : Option Files → Catalogue → List Query → Option ℕ → Course Status Reply
runs_union files catalogue queries number = and_then (makes_members catalogue queries) (runs_members files catalogue queries number)
