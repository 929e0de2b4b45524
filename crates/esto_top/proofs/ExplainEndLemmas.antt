-- The course of `explain` comes to an end: the set of the number has a certificate.
use Rattle.std.proofs.Common.{◌≡◌, ℕ, List, None, Some, slice_get}
use Rattle.esto_mapping.specs.declared.catalogue.Catalogue.{Catalogue}
use Rattle.esto_rewriting.specs.Explain.{certifies_item, explains_plan, explains_query}
use Rattle.esto_top.specs.Explain.{explain_course}
use Rattle.esto_rewriting.specs.CertificateLaws.{ListedSetsHaveOne}
use Rattle.esto_rewriting.specs.Verify.{HasVerdict}
use Rattle.esto_course.specs.Course.{Course, and_then, judges}
use Rattle.esto_list.specs.declared.listing.Listed.{Listed}
use Rattle.esto_status.specs.declared.status.Status.{Status}
use Rattle.esto_rewriting.specs.Choice.{HasNoPlace, IsPlace}
use Rattle.esto_rewriting.specs.PlannedLaws.{PlaceIsWithin}
use Rattle.esto_rewriting.specs.Listing.{IsListOf, IsPlanned}
use Rattle.esto_rewriting.specs.Planning.{chooses, plans_query}
use Rattle.esto_ports.specs.Files.{Files}
use Rattle.esto_query.specs.declared.query.Query.{Query}
use Rattle.esto_term.proofs.ListLemmas.{thing_at}
use Rattle.esto_views.specs.declared.plan.Plan.{Plan}
use Rattle.esto_top.specs.Ends.{Ends, EndsOrLacks}
use Rattle.esto_top.specs.LawsBelow.{BelowLaws, ReadingLaws}
use Rattle.esto_top.proofs.CourseLemmas.{ends_judged, ends_then, judges_accepted, judges_accepts}
use Rattle.esto_top.proofs.OpeningLemmas.{catalogue_opens, query_replies}
use Rattle.esto_top.proofs.RunEndLemmas.{chooses_ends, plan_of, plans_ends}
use Rattle.esto_top.proofs.PlannedLemmas.{list_exists}

module _ (laws : BelowLaws) (place_is : PlaceIsWithin) (have : ListedSetsHaveOne) (catalogue : Catalogue) (query : Query) (number : ℕ) where
  plan_ends : {lack : Type 0} (plan : Plan) → IsPlanned catalogue query plan → Ends lack (explains_plan catalogue query number plan)
  plan_ends plan planned =
      ends_judged (IsListOf catalogue query plan) (λ _. ⊥) (λ items. and_then (chooses items (Some number)) (after items))
      (list_exists laws.keeps laws.chase catalogue laws.lists query plan planned) (λ items list.
      ends_then (chooses items (Some number)) (after items) (chooses_ends laws.lists.picks items (Some number)) (λ place goes.
      ends_judged (λ item. slice_get items place ≡ Some item) (λ _. ⊥) (certifies_item catalogue query plan)
      (thing_at items place (place_is items (Some number) place (placed items place goes)))
      (λ item at.
      let text = have catalogue query plan planned items place item list at in
      judges_accepts (λ it. HasVerdict catalogue query plan item.set it None) (λ _. ⊥) text.0 text.1)))
    where
      after : List Listed → ℕ → Course Status (List ℕ)
      after items place = and_then (judges (λ item. slice_get items place ≡ Some item) (λ _. ⊥)) (certifies_item catalogue query plan)

      placed : (items : List Listed) (place : ℕ) → (chooses items (Some number)).goes place → IsPlace items (Some number) place
      placed items place goes = judges_accepted (IsPlace items (Some number)) (HasNoPlace items (Some number)) place goes

  query_ends : {lack : Type 0} → Ends lack (explains_query number catalogue query)
  query_ends =
      ends_then (plans_query catalogue query) (λ plan. explains_plan catalogue query number plan) (plans_ends laws catalogue query)
      (λ plan goes. plan_ends plan (plan_of laws catalogue query plan goes))

pub explain_ends : ReadingLaws → BelowLaws → PlaceIsWithin → ListedSetsHaveOne → (files : Files) (catalogue_name query_name : List ℕ) (number : ℕ)
    → EndsOrLacks (explain_course (Some files) catalogue_name query_name number)
explain_ends readings laws place_is have files catalogue_name query_name number =
    ends_then _ _ (catalogue_opens readings files catalogue_name) (λ catalogue says.
    query_replies readings files query_name catalogue (explains_query number catalogue) (λ query. query_ends laws place_is have catalogue query number))
