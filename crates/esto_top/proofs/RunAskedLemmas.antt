-- What a run asks of the shelf.
use Rattle.std.proofs.Common.{◌≡◌, ℕ, List, [], ◌∷◌, get_or, length, slice_get, Option, Some, Result, Ok, Err, refl, subst, arith}
use Rattle.either.specs.declared.Either.TheVariants.{Left, Right}
use Rattle.esto_mapping.specs.declared.catalogue.Catalogue.{Catalogue}
use Rattle.esto_chase_laws.specs.declared.clash.Clash.{Clash}
use Rattle.esto_course.specs.Course.{Names, Stops, gives}
use Rattle.esto_course.proofs.Asking.{quiet_gives, quiet_judges}
use Rattle.esto_course.proofs.Steps.{gives_goes}
use Rattle.esto_list.specs.declared.listing.Listed.{Listed}
use Rattle.esto_ports.specs.Files.{Files}
use Rattle.esto_query.specs.declared.query.Query.{Query}
use Rattle.esto_run.specs.Used.{AreUsed}
use Rattle.esto_views.specs.Plans.{plan_query}
use Rattle.esto_views.specs.declared.plan.Plan.{Plan}
use Rattle.esto_rewriting.specs.Run.{runs_union}
use Rattle.esto_status.specs.Answers.{Answers, IsCaused, IsWant}
use Rattle.esto_status.specs.Asked.{AsksIn}
use Rattle.esto_run.specs.Fragments.{opens_fragments}
use Rattle.esto_status.specs.declared.reply.Reply.{Reply}
use Rattle.esto_status.specs.declared.reply.Reply.TheVariants.{Done}
use Rattle.esto_status.specs.declared.status.Status.{Status}
use Rattle.esto_status.specs.declared.status.Status.TheVariants.{OutOfMemory}
use Rattle.esto_status.proofs.AskedSteps.{accepted, exit_asks, later_asks, quiet_asks, wanted}
use Rattle.esto_rewriting.specs.Listing.{IsClash, IsListOf, IsPlanned}
use Rattle.esto_rewriting.specs.Planning.{chooses, ends_query}
use Rattle.esto_top.specs.Run.{IsRunText, has_no_answers, runs_end, runs_item, runs_plan, runs_queries, runs_query}

-- ---- the item

module _ (files : Option Files) (catalogue : Catalogue) (query : Query) (plan : Plan) (item : Listed) where
  -- memory is wanting before a file is fetched
  pub item_wants : (told : Option Names) → AsksIn told told (runs_item files catalogue query plan item) (Err OutOfMemory)
  item_wants told = wanted told _ _ _

  module _ (numbers : List ℕ) (used : AreUsed (plan_query plan).body item.set numbers) {old new : Option Names} where
    -- a file of the set's is not opened
    pub item_exit_asks : (refusal : Status) → AsksIn old new (opens_fragments files catalogue numbers) (Err refusal)
        → AsksIn old new (runs_item files catalogue query plan item) (Err refusal)
    item_exit_asks refusal asked = later_asks _ _ (accepted old _ _ numbers used) (exit_asks _ _ asked)

    module _ (contents : ℕ → List ℕ) (opened : AsksIn old new (opens_fragments files catalogue numbers) (Ok contents)) where
      -- all are opened, and the text is made
      pub item_asks : (text : List ℕ) → IsRunText catalogue query plan item.set contents text
          → AsksIn old new (runs_item files catalogue query plan item) (Ok (Done text))
      item_asks text is = later_asks _ _ (accepted old _ _ numbers used) (later_asks _ _ opened (later_asks _ _ (accepted new _ _ text is)
          (quiet_asks (gives (Done text)) new (Ok (Done text)) (quiet_gives Status (Done text)) (gives_goes Status (Done text) (Done text) refl))))

      -- or memory is wanting for it
      pub item_text_wants : AsksIn old new (runs_item files catalogue query plan item) (Err OutOfMemory)
      item_text_wants = later_asks _ _ (accepted old _ _ numbers used) (later_asks _ _ opened (wanted new _ _ _))

-- ---- the plan

module _ (files : Option Files) (catalogue : Catalogue) (query : Query) (number : Option ℕ) (plan : Plan) where
  -- memory is wanting for the list
  pub list_wants : (told : Option Names) → AsksIn told told (runs_plan files catalogue query number plan) (Err OutOfMemory)
  list_wants told = wanted told _ _ _

  module _ (items : List Listed) (list : IsListOf catalogue query plan items) where
    -- no item is chosen
    pub choice_asks : (told : Option Names) (refusal : Status) → Stops IsWant (IsCaused ⊥) (chooses items number) refusal
        → AsksIn told told (runs_plan files catalogue query number plan) (Err refusal)
    choice_asks told refusal stops =
        later_asks _ _ (accepted told _ _ items list) (exit_asks _ _ (quiet_asks (chooses items number) told (Err refusal) (quiet_judges _ _) stops))

    -- the chosen item is run
    pub chosen_asks : {old new : Option Names} (place : ℕ) → (chooses items number).goes place → (item : Listed) → slice_get items place ≡ Some item
        → (result : Result Reply Status) → AsksIn old new (runs_item files catalogue query plan item) result
        → AsksIn old new (runs_plan files catalogue query number plan) result
    chosen_asks {old = old} place chosen item there result asked =
        later_asks _ _ (accepted old _ _ items list) (later_asks _ _ (quiet_asks (chooses items number) old (Ok place) (quiet_judges _ _) chosen)
        (later_asks _ _ (accepted old _ _ item there) asked))

-- ---- the query

module _ (files : Option Files) (catalogue : Catalogue) (query : Query) (number : Option ℕ) where
  -- memory is wanting for the plan
  pub plan_wants : (told : Option Names) → AsksIn told told (runs_query files catalogue query number) (Err OutOfMemory)
  plan_wants told = wanted told _ _ _

  -- the plan is run
  pub plan_asks : {old new : Option Names} (plan : Plan) → IsPlanned catalogue query plan → (result : Result Reply Status)
      → AsksIn old new (runs_plan files catalogue query number plan) result → AsksIn old new (runs_query files catalogue query number) result
  plan_asks {old = old} plan planned result asked =
      later_asks (ends_query catalogue query) (runs_end files catalogue query number) (accepted old _ _ (Left plan) planned) asked

  -- the run ends with a clash
  pub clash_asks : (told : Option Names) (clash : Clash) → IsClash catalogue query clash → (result : Result Reply Status)
      → Answers (has_no_answers query clash) ⊥ result → AsksIn told told (runs_query files catalogue query number) result
  clash_asks told clash clashes result answer =
      later_asks (ends_query catalogue query) (runs_end files catalogue query number) (accepted told _ _ (Right clash) clashes)
      (quiet_asks (has_no_answers query clash) told result (quiet_gives Status _) answer)

-- ---- the queries

module _ (files : Option Files) (catalogue : Catalogue) (number : Option ℕ) (result : Result Reply Status) where
  -- one query is run
  pub one_answers : (rose : Type 0) (queries : List Query) (query : Query) → length queries ≡ 1 → query ≡ get_or queries 0 query
      → Answers (runs_query files catalogue query number) rose result → Answers (runs_queries files catalogue queries number) rose result
  one_answers rose [] query count is answers = absurd (omega (arith, count))
  one_answers rose (one ∷ []) query count is answers = subst (λ (it : Query). Answers (runs_query files catalogue it number) rose result) is answers
  one_answers rose (one ∷ next ∷ queries) query count is answers = absurd (omega (arith, count))

  pub one_asks : (old new : Option Names) (queries : List Query) (query : Query) → length queries ≡ 1 → query ≡ get_or queries 0 query
      → AsksIn old new (runs_query files catalogue query number) result → AsksIn old new (runs_queries files catalogue queries number) result
  one_asks old new [] query count is asked = absurd (omega (arith, count))
  one_asks old new (one ∷ []) query count is asked = subst (λ (it : Query). AsksIn old new (runs_query files catalogue it number) result) is asked
  one_asks old new (one ∷ next ∷ queries) query count is asked = absurd (omega (arith, count))

  -- two or more are run as a union
  pub more_answers : (rose : Type 0) (queries : List Query) → (length queries ≡ 1 → ⊥) → Answers (runs_union files catalogue queries number) rose result
      → Answers (runs_queries files catalogue queries number) rose result
  more_answers rose [] several answers = answers
  more_answers rose (query ∷ []) several answers = absurd (several refl)
  more_answers rose (query ∷ next ∷ queries) several answers = answers

  pub more_asks : (old new : Option Names) (queries : List Query) → (length queries ≡ 1 → ⊥)
      → AsksIn old new (runs_union files catalogue queries number) result → AsksIn old new (runs_queries files catalogue queries number) result
  more_asks old new [] several asked = asked
  more_asks old new (query ∷ []) several asked = absurd (several refl)
  more_asks old new (query ∷ next ∷ queries) several asked = asked
