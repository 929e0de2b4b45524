-- The command `run`.
use Rattle.std.specs.Prelude.{◌≡◌, ℕ, Bool, List, [], ◌∷◌, slice_get, Option, Some}
use Rattle.either.specs.declared.Either.{Either}
use Rattle.either.specs.declared.Either.TheVariants.{Left, Right}
use Rattle.esto_mapping.specs.declared.catalogue.Catalogue.{Catalogue}
use Rattle.esto_chase_laws.specs.declared.clash.Clash.{Clash}
use Rattle.esto_course.specs.Course.{Course, judges, gives, and_then}
use Rattle.esto_rewriting.specs.Run.{runs_union}
use Rattle.esto_list.specs.declared.listing.Listed.{Listed}
use Rattle.esto_ports.specs.Files.{Files}
use Rattle.esto_query.specs.declared.query.Query.{Query}
use Rattle.esto_run.specs.Answers.{IsAnswersText, rows_text}
use Rattle.esto_run.specs.Laws.{IsAnswerOver}
use Rattle.esto_docs.specs.Stores.{IsFileRow}
use Rattle.esto_run.specs.Used.{AreUsed}
use Rattle.esto_semantics.specs.Listed.{candidate}
use Rattle.esto_views.specs.Plans.{plan_query}
use Rattle.esto_views.specs.declared.plan.Plan.{Plan}
use Rattle.esto_run.specs.Fragments.{opens_fragments}
use Rattle.esto_rewriting.specs.Planning.{chooses, ends_query, lists_plan}
use Rattle.esto_status.specs.declared.reply.Reply.{Reply}
use Rattle.esto_status.specs.declared.reply.Reply.TheVariants.{Done, Unsatisfiable}
use Rattle.esto_status.specs.declared.status.Status.{Status}
use Rattle.esto_top.specs.Over.{over_catalogue, over_union}

-- ---- the text

-- The text is that of the answers of the set's candidate over the rows of the fragments' files, each once, in order, under the names of the query's head.
abbrev pub IsRunText : Catalogue → Query → Plan → List Bool → (ℕ → List ℕ) → List ℕ → Type 0
IsRunText catalogue query plan set contents text =
    IsAnswersText query (IsAnswerOver (IsFileRow catalogue.stores contents) (candidate (plan_query plan) set)) text

-- ---- the steps

-- The fragments that the item's set uses are found and their files opened, each once, in rising order of the least number of their atoms in the set; and the
-- text of the rows is the reply.
abbrev pub runs_item : Option Files → Catalogue → Query → Plan → Listed → Course Status Reply
runs_item files catalogue query plan item =
    and_then (judges (AreUsed (plan_query plan).body item.set) (λ _. ⊥)) (λ numbers.
    and_then (opens_fragments files catalogue numbers) (λ contents.
    and_then (judges (IsRunText catalogue query plan item.set contents) (λ _. ⊥)) (λ text.
    gives (Done text))))

-- The list is made, and one of its items is chosen and run.
abbrev pub runs_plan : Option Files → Catalogue → Query → Option ℕ → Plan → Course Status Reply
runs_plan files catalogue query number plan =
    and_then (lists_plan catalogue query plan) (λ items.
    and_then (chooses items number) (λ place.
    and_then (judges (λ item. slice_get items place ≡ Some item) (λ _. ⊥)) (λ item.
    runs_item files catalogue query plan item)))

-- The names of the query's head alone are the text, with the clash of its run.
abbrev pub has_no_answers : Query → Clash → Course Status Reply
has_no_answers query clash = gives (Unsatisfiable clash (rows_text query []))

-- A plan is run. A query whose run ends with a clash has no answers, and the names of its head alone are the text.
abbrev pub runs_end : Option Files → Catalogue → Query → Option ℕ → Either Plan Clash → Course Status Reply
runs_end files catalogue query number (Left plan) = runs_plan files catalogue query number plan
runs_end files catalogue query number (Right clash) = has_no_answers query clash

-- The query is chased, and its plan is run.
abbrev pub runs_query : Option Files → Catalogue → Query → Option ℕ → Course Status Reply
runs_query files catalogue query number = and_then (ends_query catalogue query) (runs_end files catalogue query number)

-- One query is run, and of more their union.
abbrev pub runs_queries : Option Files → Catalogue → List Query → Option ℕ → Course Status Reply
runs_queries files catalogue (query ∷ []) number = runs_query files catalogue query number
runs_queries files catalogue queries number = runs_union files catalogue queries number

-- The catalogue is fetched and read, then the queries, and they are run.
abbrev pub run_course : Option Files → List ℕ → List ℕ → Option ℕ → Course Status Reply
run_course files catalogue_name query_name number =
    over_catalogue files catalogue_name (λ catalogue. over_union files query_name catalogue (λ queries. runs_queries files catalogue queries number))
