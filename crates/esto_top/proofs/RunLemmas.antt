-- The set that is run, and the text of its rows.
use Rattle.either.specs.declared.Either.TheVariants.{Left, Right}
use Rattle.std.proofs.Common.{◌≡◌, ◌<◌, ℕ, Bool, List, length, Contains, slice_get, Option, Some, Result, Ok, Err, refl, ap, subst, ◌∙◌}
use Rattle.std.proofs.lemmas.Option.{slice_get_within}
use Rattle.esto_mapping.specs.declared.catalogue.Catalogue.{Catalogue}
use Rattle.esto_chase_laws.specs.declared.clash.Clash.{Clash}
use Rattle.esto_course.specs.Course.{Stops, judges, gives, and_then}
use Rattle.esto_course.proofs.Steps.{caused_more, first_stops, then_goes, then_stops}
use Rattle.esto_list.specs.declared.listing.Listed.{Listed}
use Rattle.esto_ports.specs.Files.{Files}
use Rattle.esto_query.specs.declared.query.Query.{Query}
use Rattle.esto_run.specs.Answers.{IsAnswersText}
use Rattle.esto_run.specs.Laws.{AnswersAreOverFiles, IsAnswerOver, UsesOnly}
use Rattle.esto_run.specs.Opened.{AreOpened}
use Rattle.esto_docs.specs.Stores.{IsFileRow}
use Rattle.esto_run.specs.Used.{AreUsed}
use Rattle.esto_run.proofs.RowsTextLemmas.{same_rows}
use Rattle.esto_steps.specs.Rows.{IsRowOf, held_by}
use Rattle.esto_semantics.specs.Listed.{candidate}
use Rattle.esto_semantics.specs.ListedLaws.{ChosenAreNamed}
use Rattle.esto_semantics.specs.declared.fact.Fact.{Fact}
use Rattle.esto_stores.specs.Rows.{Row}
use Rattle.esto_term.specs.declared.term.Term.{Term}
use Rattle.esto_term.proofs.ListLemmas.{Contains-at, Contains-map_from}
use Rattle.esto_views.specs.Plans.{IsPlanOver, fact_of, plan_query}
use Rattle.esto_views.specs.declared.fragments.FragmentDef.{FragmentDef}
use Rattle.esto_views.specs.declared.plan.Plan.{Plan}
use Rattle.esto_status.specs.Answers.{Answers, IsWant, IsCaused}
use Rattle.esto_run.specs.Fragments.{opens_fragments}
use Rattle.esto_top.specs.Run.{IsRunText, has_no_answers, runs_end, runs_item, runs_plan, runs_query}
use Rattle.esto_status.specs.declared.reply.Reply.{Reply}
use Rattle.esto_status.specs.declared.reply.Reply.TheVariants.{Done}
use Rattle.esto_status.specs.declared.status.Status.{Status}
use Rattle.esto_status.proofs.Steps.{caused_weaker}
use Rattle.esto_rewriting.specs.Listing.{IsClash, IsListOf, IsPlanned}
use Rattle.esto_rewriting.specs.Planning.{chooses, ends_query, lists_plan}
use Rattle.esto_status.proofs.Steps.{then_answers_still}

-- ---- the fragments

-- the fragments that a set uses are there
pub used_are_there : (plan : Plan) (fragments : List FragmentDef) (set : List Bool) (numbers : List ℕ) → IsPlanOver plan fragments
    → AreUsed (plan_query plan).body set numbers → (number : ℕ) → Contains numbers number → number < length fragments
used_are_there plan fragments set numbers over used number inside =
    let place = (used.exact number).0 inside in
    let atom : Fact Term = place.1.1.0 in
    let own = Contains-map_from fact_of plan.atoms atom (Contains-at (plan_query plan).body place.0 atom place.1.1.1) in
    let found = over own.0 own.1 in
    let fragment : own.0.fragment ≡ number = ap (λ (it : Fact Term). it.relation) own.2 ∙ place.1.1.2 in
    subst (λ (it : ℕ). it < length fragments) fragment (slice_get_within fragments own.0.fragment found.0 found.1)

-- and they are all that its candidate uses
pub uses_only : ChosenAreNamed → (plan : Plan) (set : List Bool) (numbers : List ℕ) → AreUsed (plan_query plan).body set numbers
    → UsesOnly numbers (candidate (plan_query plan) set)
uses_only named plan set numbers used atom inside =
    let found = (named set (plan_query plan).body atom).0 inside in
    (used.exact atom.relation).1 (found.0, (found.1, (atom, found.2, refl)))

-- ---- the text

-- over the rows of the files of all fragments that are used, the text is that of the candidate's answers over the files
pub text_over_files : AnswersAreOverFiles → ChosenAreNamed → (catalogue : Catalogue) (query : Query) (plan : Plan) (set : List Bool) (numbers : List ℕ)
    (contents : ℕ → List ℕ) (opened : List (List Row)) (text : List ℕ) → AreUsed (plan_query plan).body set numbers
    → AreOpened catalogue.stores contents numbers opened
    → IsAnswersText query (IsAnswerOver (IsRowOf (held_by opened)) (candidate (plan_query plan) set)) text
    → IsRunText catalogue query plan set contents text
text_over_files over named catalogue query plan set numbers contents opened text used are is =
    same_rows query (IsAnswerOver (IsRowOf (held_by opened)) (candidate (plan_query plan) set))
    (IsAnswerOver (IsFileRow catalogue.stores contents) (candidate (plan_query plan) set)) text
    (over catalogue.stores contents numbers opened (candidate (plan_query plan) set) are (uses_only named plan set numbers used)) is

-- ---- the item's course

module _ (files : Option Files) (catalogue : Catalogue) (query : Query) (plan : Plan) (item : Listed) (numbers : List ℕ)
    (used : AreUsed (plan_query plan).body item.set numbers) where
  -- a file of the set's is not opened
  pub item_stops : {rose : Type 0} {refusal : Status} → Stops IsWant (IsCaused rose) (opens_fragments files catalogue numbers) refusal
      → Stops IsWant (IsCaused rose) (runs_item files catalogue query plan item) refusal
  unfolding judges
  item_stops stops = then_stops (judges (AreUsed (plan_query plan).body item.set) (λ _. ⊥)) _ numbers used (first_stops _ _ stops)

  -- all are opened, and the text is made
  pub item_goes : (contents : ℕ → List ℕ) (text : List ℕ) → (opens_fragments files catalogue numbers).goes contents
      → IsRunText catalogue query plan item.set contents text → (runs_item files catalogue query plan item).goes (Done text)
  unfolding and_then judges gives
  item_goes contents text goes is = (numbers, used, (contents, goes, (text, is, refl)))

-- ---- the plan's course

module _ (files : Option Files) (catalogue : Catalogue) (query : Query) (number : Option ℕ) (plan : Plan) (items : List Listed)
    (list : IsListOf catalogue query plan items) where
  -- no item is chosen
  pub choice_stops : {rose : Type 0} {refusal : Status} → Stops IsWant (IsCaused ⊥) (chooses items number) refusal
      → Stops IsWant (IsCaused rose) (runs_plan files catalogue query number plan) refusal
  unfolding judges
  choice_stops {refusal = refusal} stops = then_stops (lists_plan catalogue query plan) _ items list
      (first_stops _ _ (caused_more _ refusal (caused_weaker (λ none. absurd none)) stops))

  module _ (place : ℕ) (chosen : (chooses items number).goes place) (item : Listed) (there : slice_get items place ≡ Some item) where
    -- the chosen item is not run
    pub chosen_stops : {rose : Type 0} {refusal : Status} → Stops IsWant (IsCaused rose) (runs_item files catalogue query plan item) refusal
        → Stops IsWant (IsCaused rose) (runs_plan files catalogue query number plan) refusal
    unfolding judges
    chosen_stops stops = then_stops (lists_plan catalogue query plan) _ items list (then_stops (chooses items number) _ place chosen
        (then_stops (judges (λ it. slice_get items place ≡ Some it) (λ _. ⊥)) (runs_item files catalogue query plan) item there stops))

    pub chosen_goes : (reply : Reply) → (runs_item files catalogue query plan item).goes reply → (runs_plan files catalogue query number plan).goes reply
    unfolding judges
    chosen_goes reply goes = then_goes (lists_plan catalogue query plan) _ items reply list (then_goes (chooses items number) _ place reply chosen
        (then_goes (judges (λ it. slice_get items place ≡ Some it) (λ _. ⊥)) (runs_item files catalogue query plan) item reply there goes))

    pub chosen_answers : (rose : Type 0) (result : Result Reply Status) → Answers (runs_item files catalogue query plan item) rose result
        → Answers (runs_plan files catalogue query number plan) rose result
    chosen_answers rose (Ok reply) goes = chosen_goes reply goes
    chosen_answers rose (Err refusal) stops = chosen_stops stops

-- ---- the query's course

module _ (files : Option Files) (catalogue : Catalogue) (query : Query) (number : Option ℕ) where
  pub plan_goes : (plan : Plan) → IsPlanned catalogue query plan → (reply : Reply) → (runs_plan files catalogue query number plan).goes reply
      → (runs_query files catalogue query number).goes reply
  unfolding judges
  plan_goes plan planned reply goes = then_goes (ends_query catalogue query) (runs_end files catalogue query number) (Left plan) reply planned goes

  pub plan_stops : {rose : Type 0} {refusal : Status} (plan : Plan) → IsPlanned catalogue query plan
      → Stops IsWant (IsCaused rose) (runs_plan files catalogue query number plan) refusal
      → Stops IsWant (IsCaused rose) (runs_query files catalogue query number) refusal
  unfolding judges
  plan_stops plan planned stops = then_stops (ends_query catalogue query) (runs_end files catalogue query number) (Left plan) planned stops

  pub plan_answers : (rose : Type 0) (plan : Plan) → IsPlanned catalogue query plan → (result : Result Reply Status)
      → Answers (runs_plan files catalogue query number plan) rose result → Answers (runs_query files catalogue query number) rose result
  plan_answers rose plan planned (Ok reply) goes = plan_goes plan planned reply goes
  plan_answers rose plan planned (Err refusal) stops = plan_stops plan planned stops

  pub clash_answers : (rose : Type 0) (clash : Clash) → IsClash catalogue query clash → (result : Result Reply Status)
      → Answers (has_no_answers query clash) ⊥ result → Answers (runs_query files catalogue query number) rose result
  unfolding judges
  clash_answers rose clash clashes result answer =
      then_answers_still (ends_query catalogue query) (runs_end files catalogue query number) rose (Right clash) result clashes answer
