-- The courses of `run` over catalogues that say the same agree.
use Rattle.std.proofs.Common.{◌≡◌, ℕ, Bool, List, [], slice_get, Option, Some, sym, ap, subst, ◌∙◌}
use Rattle.std.proofs.lemmas.Option.{same_Some}
use Rattle.either.specs.declared.Either.{Either}
use Rattle.either.specs.declared.Either.TheVariants.{Left, Right}
use Rattle.esto_mapping.specs.Catalogues.{AreSame}
use Rattle.esto_mapping.specs.declared.catalogue.Catalogue.{Catalogue}
use Rattle.esto_chase_laws.specs.declared.clash.Clash.{Clash}
use Rattle.esto_course.specs.Course.{judges, and_then}
use Rattle.esto_course.proofs.Determined.{then_agree, gives_agree, judges_agree}
use Rattle.esto_list.specs.declared.listing.Listed.{Listed}
use Rattle.esto_ports.specs.Files.{Files}
use Rattle.esto_query.specs.declared.query.Query.{Query}
use Rattle.esto_run.specs.Answers.{rows_text}
use Rattle.esto_run.specs.Laws.{IsAnswerOver, RisingRowsAreOne, UsedAreOne}
use Rattle.esto_docs.specs.Stores.{IsFileRow}
use Rattle.esto_run.specs.Used.{AreUsed}
use Rattle.esto_semantics.specs.Listed.{candidate}
use Rattle.esto_semantics.specs.Queries.{ConjunctiveQuery}
use Rattle.esto_views.specs.Plans.{plan_query}
use Rattle.esto_views.specs.declared.plan.Plan.{Plan}
use Rattle.esto_run.specs.Fragments.{opens_fragments}
use Rattle.esto_top.specs.Run.{IsRunText, runs_item, runs_plan, runs_end, runs_query}
use Rattle.esto_status.specs.declared.reply.Reply.TheVariants.{Done, Unsatisfiable}
use Rattle.esto_status.specs.Calm.{AgreeCalmly}
use Rattle.esto_top.proofs.AlikeRunLemmas.{one_text, run_text_moved}
use Rattle.esto_top.specs.Laws.{OpeningLaws, PlanningLaws}
use Rattle.esto_query.specs.Same.{IsSameQuery}
use Rattle.esto_run.proofs.RowsTextLemmas.{same_rows_text}
use Rattle.esto_rewriting.specs.Alike.{IsSameEnd, IsSamePlan}
use Rattle.esto_rewriting.specs.Planning.{chooses}

-- the laws by which runs are determined
pub record CourseLaws : Type 0 where
  pub opening : OpeningLaws
  pub planning : PlanningLaws
  pub used : UsedAreOne
  pub rising : RisingRowsAreOne

module _ (laws : CourseLaws) (files : Files) (catalogue other : Catalogue) (alike : AreSame catalogue other) (query other_query : Query)
    (same : IsSameQuery query other_query) where
  module _ (plan other_plan : Plan) (plans : IsSamePlan plan other_plan) where
    used_agree : (set : List Bool) → AgreeCalmly ◌≡◌ (judges (AreUsed (plan_query plan).body set) (λ _. ⊥))
        (judges (AreUsed (plan_query other_plan).body set) (λ _. ⊥))
    used_agree set = judges_agree _ _ _ _ _ _
        (λ numbers others here there. laws.used (plan_query plan).body set numbers others here
        (subst (λ (it : ConjunctiveQuery). AreUsed it.body set others) (sym plans.0) there))
        (λ said other_said caused other_caused here there. absurd here) (λ value said caused here there. there) (λ value said caused here there. there)

    text_agree : (set : List Bool) (contents : ℕ → List ℕ) → AgreeCalmly ◌≡◌ (judges (IsRunText catalogue query plan set contents) (λ _. ⊥))
        (judges (IsRunText other other_query other_plan set contents) (λ _. ⊥))
    text_agree set contents = judges_agree _ _ _ _ _ _
        (λ text other_text here there. one_text laws.rising query (IsAnswerOver (IsFileRow catalogue.stores contents) (candidate (plan_query plan) set))
        text other_text here (run_text_moved laws.opening.rows catalogue
        other alike query other_query same plan other_plan plans set contents other_text there))
        (λ said other_said caused other_caused here there. absurd here) (λ value said caused here there. there) (λ value said caused here there. there)

    item_agree : (item : Listed) → AgreeCalmly ◌≡◌ (runs_item (Some files) catalogue query plan item)
        (runs_item (Some files) other other_query other_plan item)
    item_agree item =
        then_agree _ ◌≡◌ ◌≡◌ _ _ _ _ (used_agree item.set) (λ numbers others goes one.
        then_agree _ ◌≡◌ ◌≡◌ _ _ _ _
        (subst (λ it. AgreeCalmly ◌≡◌ (opens_fragments (Some files) catalogue numbers) (opens_fragments (Some files) other it)) one
        (laws.opening.fragments files catalogue other numbers alike))
        (λ contents other_contents goes1 one1.
        then_agree _ ◌≡◌ ◌≡◌ _ _ _ _
        (subst (λ (it : ℕ → List ℕ). AgreeCalmly ◌≡◌ (judges (IsRunText catalogue query plan item.set contents) (λ _. ⊥))
        (judges (IsRunText other other_query other_plan item.set it) (λ _. ⊥))) one1 (text_agree item.set contents))
        (λ text other_text goes2 one2. gives_agree _ (Done text) (Done other_text) (ap Done one2))))

    found_agree : (items : List Listed) (place : ℕ) → AgreeCalmly ◌≡◌ (judges (λ item. slice_get items place ≡ Some item) (λ _. ⊥))
        (judges (λ item. slice_get items place ≡ Some item) (λ _. ⊥))
    found_agree items place = judges_agree _ _ _ _ _ _ (λ item other_item here there. same_Some item other_item (sym here ∙ there))
        (λ said other_said caused other_caused here there. absurd here) (λ value said caused here there. there) (λ value said caused here there. there)

    -- from the list on, what follows
    rest_agree : (number : Option ℕ) (items : List Listed) → AgreeCalmly ◌≡◌
        (and_then (chooses items number) (λ place. and_then (judges (λ item. slice_get items place ≡ Some item) (λ _. ⊥))
        (λ item. runs_item (Some files) catalogue query plan item)))
        (and_then (chooses items number) (λ place. and_then (judges (λ item. slice_get items place ≡ Some item) (λ _. ⊥))
        (λ item. runs_item (Some files) other other_query other_plan item)))
    rest_agree number items =
        then_agree _ ◌≡◌ ◌≡◌ _ _ _ _ (laws.planning.choice items number) (λ place other_place goes one.
        then_agree _ ◌≡◌ ◌≡◌ _ _ _ _
        (subst (λ (it : ℕ). AgreeCalmly ◌≡◌ (judges (λ item. slice_get items place ≡ Some item) (λ _. ⊥))
        (judges (λ item. slice_get items it ≡ Some item) (λ _. ⊥))) one (found_agree items place))
        (λ item other_item goes1 one1. subst (λ it. AgreeCalmly ◌≡◌ (runs_item (Some files) catalogue query plan item)
        (runs_item (Some files) other other_query other_plan it)) one1 (item_agree item)))

    plan_agree : (number : Option ℕ) → AgreeCalmly ◌≡◌ (runs_plan (Some files) catalogue query number plan)
        (runs_plan (Some files) other other_query number other_plan)
    plan_agree number = then_agree _ ◌≡◌ ◌≡◌ _ _ _ _ (laws.planning.list catalogue other query other_query plan other_plan alike same plans)
        (λ items others goes one.
        subst (λ (it : List Listed). AgreeCalmly ◌≡◌
        (and_then (chooses items number) (λ place. and_then (judges (λ item. slice_get items place ≡ Some item) (λ _. ⊥))
        (λ item. runs_item (Some files) catalogue query plan item)))
        (and_then (chooses it number) (λ place. and_then (judges (λ item. slice_get it place ≡ Some item) (λ _. ⊥))
        (λ item. runs_item (Some files) other other_query other_plan item)))) one (rest_agree number items))

  end_agree : (number : Option ℕ) (end other_end : Either Plan Clash) → IsSameEnd end other_end
      → AgreeCalmly ◌≡◌ (runs_end (Some files) catalogue query number end) (runs_end (Some files) other other_query number other_end)
  end_agree number (Left plan) (Left other_plan) plans = plan_agree plan other_plan plans number
  end_agree number (Left plan) (Right clash) never = absurd never
  end_agree number (Right clash) (Left plan) never = absurd never
  end_agree number (Right clash) (Right other_clash) one =
      gives_agree _ (Unsatisfiable clash (rows_text query [])) (Unsatisfiable other_clash (rows_text other_query []))
      (λ i. Unsatisfiable (one i) (same_rows_text query other_query same [] i))

  pub query_agree : (number : Option ℕ) → AgreeCalmly ◌≡◌ (runs_query (Some files) catalogue query number) (runs_query (Some files) other other_query number)
  query_agree number = then_agree _ IsSameEnd ◌≡◌ _ _ _ _ (laws.planning.end catalogue other query other_query alike same)
      (λ end other_end goes one. end_agree number end other_end one)
