-- The command `explain` has one status.
use Rattle.std.proofs.Common.{◌≡◌, ℕ, List, Some, None, subst}
use Rattle.std.specs.Prelude.{slice_get}
use Rattle.esto_mapping.specs.Catalogues.{AreSame}
use Rattle.esto_mapping.specs.declared.catalogue.Catalogue.{Catalogue}
use Rattle.esto_course.specs.Course.{gives, judges}
use Rattle.esto_course.proofs.Determined.{judges_agree, then_agree}
use Rattle.esto_list.specs.declared.listing.Listed.{Listed}
use Rattle.esto_query.specs.declared.query.Query.{Query}
use Rattle.esto_views.specs.declared.plan.Plan.{Plan}
use Rattle.esto_opening.specs.Alike.{CataloguesOpenAlike, QueriesOpenAlike}
use Rattle.esto_query.specs.Same.{IsSameQuery}
use Rattle.esto_status.specs.Calm.{AgreeCalmly}
use Rattle.esto_status.specs.declared.reply.Reply.TheVariants.{Done}
use Rattle.esto_rewriting.specs.Alike.{ChoiceIsOne, IsSamePlan, ListIsOne, PlanIsOne}
use Rattle.esto_rewriting.specs.Planning.{chooses}
use Rattle.esto_rewriting.specs.Explain.{explains_plan, explains_query}
use Rattle.esto_top.specs.CertificateLaws.{AreDone, ExplainHasOneStatus}
use Rattle.esto_rewriting.specs.Verify.{HasVerdict}

-- any two values
abbrev Both : {A : Type 0} → A → A → Type 0
Both value other = Unit {0}

-- steps that are never refused
never_refused : {A : Type 0} (Accepts Others : A → Type 0) → AgreeCalmly Both (judges Accepts (λ _. ⊥)) (judges Others (λ _. ⊥))
never_refused Accepts Others = judges_agree _ _ _ _ _ _
    (λ value other here there. tt)
    (λ said other caused caused_too here there. absurd here)
    (λ value said caused here there. there)
    (λ value said caused here there. there)

done_agree : (text other : List ℕ) → AgreeCalmly AreDone (gives (Done text)) (gives (Done other))
unfolding gives judges
done_agree text other = judges_agree _ AreDone (λ it. it ≡ Done text) (λ it. it ≡ Done other) (λ _. ⊥) (λ _. ⊥)
    (λ value its here there. ((text, here), (other, there)))
    (λ said its caused caused_too here there. absurd here)
    (λ value said caused here there. there)
    (λ value said caused here there. there)

module _ (plans_one : PlanIsOne) (lists_one : ListIsOne) (choice_one : ChoiceIsOne) (number : ℕ) where
  chosen_agree : (items others : List Listed) → items ≡ others → AgreeCalmly ◌≡◌ (chooses items (Some number)) (chooses others (Some number))
  chosen_agree items others same =
      subst (λ (it : List Listed). AgreeCalmly ◌≡◌ (chooses items (Some number)) (chooses it (Some number))) same (choice_one items (Some number))

  plan_agree : (catalogue other : Catalogue) (query other_query : Query) (plan other_plan : Plan) → AreSame catalogue other → IsSameQuery query other_query
      → IsSamePlan plan other_plan → AgreeCalmly Both (explains_plan catalogue query number plan) (explains_plan other other_query number other_plan)
  plan_agree catalogue other query other_query plan other_plan alike same plans =
      then_agree _ ◌≡◌ Both _ _ _ _ (lists_one catalogue other query other_query plan other_plan alike same plans) (λ items others goes lists.
      then_agree _ ◌≡◌ Both _ _ _ _ (chosen_agree items others lists) (λ place other_place goes_too places.
      then_agree _ Both Both _ _ _ _ (never_refused (λ item. slice_get items place ≡ Some item) (λ item. slice_get others other_place ≡ Some item))
      (λ item its there any.
      never_refused (λ text. HasVerdict catalogue query plan item.set text None) (λ text. HasVerdict other other_query other_plan its.set text None))))

  query_agree : (catalogue other : Catalogue) (query other_query : Query) → AreSame catalogue other → IsSameQuery query other_query
      → AgreeCalmly Both (explains_query number catalogue query) (explains_query number other other_query)
  query_agree catalogue other query other_query alike same =
      then_agree _ IsSamePlan Both _ _ _ _ (plans_one catalogue other query other_query alike same) (λ plan other_plan goes plans.
      plan_agree catalogue other query other_query plan other_plan alike same plans)

pub explain_status : CataloguesOpenAlike → QueriesOpenAlike → PlanIsOne → ListIsOne → ChoiceIsOne → ExplainHasOneStatus
explain_status catalogues queries plans_one lists_one choice_one files catalogue_name query_name number =
    then_agree _ AreSame AreDone _ _ _ _ (catalogues files catalogue_name) (λ catalogue other goes alike.
    then_agree _ IsSameQuery AreDone _ _ _ _ (queries files query_name catalogue other alike) (λ query other_query goes_too same.
    then_agree _ Both AreDone _ _ _ _ (query_agree plans_one lists_one choice_one number catalogue other query other_query alike same)
    (λ text other_text last any. done_agree text other_text)))
