-- What `explain` says.
use Rattle.std.proofs.Common.{◌≡◌, ℕ, List, Some, None, refl, sym, ◌∙◌, inl, inr}
use Rattle.std.specs.Prelude.{slice_get}
use Rattle.std.proofs.lemmas.List.{length-map}
use Rattle.esto_mapping.specs.Catalogues.{AreSame}
use Rattle.esto_mapping.specs.declared.catalogue.Catalogue.{Catalogue}
use Rattle.esto_cert.specs.Showing.{AcceptedCertificatesDerive, AcceptedCertificatesShow, VerdictsAreMoved}
use Rattle.esto_course.specs.Course.{and_then, judges}
use Rattle.esto_list.specs.declared.listing.Listed.{Listed}
use Rattle.esto_query.specs.declared.query.Query.{Query}
use Rattle.esto_views.specs.Plans.{fact_of}
use Rattle.esto_views.specs.declared.plan.Plan.{Plan}
use Rattle.esto_opening.specs.Alike.{CataloguesOpenAlike, QueriesOpenAlike}
use Rattle.esto_query.specs.Same.{IsSameQuery}
use Rattle.esto_status.specs.Calm.{Leads}
use Rattle.esto_status.specs.Line.{line_of}
use Rattle.esto_status.specs.declared.reply.Reply.TheVariants.{Done}
use Rattle.esto_status.specs.declared.status.Status.TheVariants as status
use Rattle.esto_status.proofs.LeadLemmas.{gives-leads, leads-more, then-leads, agreed_leads}
use Rattle.esto_rewriting.specs.Alike.{ClashIsMoved, IsSamePlan, ListIsMoved, PlanIsMoved, PlanIsOne}
use Rattle.esto_rewriting.specs.PlannedLaws.{ItemIsListed}
use Rattle.esto_rewriting.specs.Listing.{IsListOf, IsPlanned}
use Rattle.esto_rewriting.specs.Explain.{explains_query}
use Rattle.esto_top.specs.CertificateLaws.{CertifiesOverPlans, ExplainSaysCertificates, IsExplained}
use Rattle.esto_top.specs.CertificateLaws.IsExplained.{clashes, has_no_set, explains}
use Rattle.esto_rewriting.specs.Verify.{HasVerdict}
use Rattle.esto_top.proofs.VerifyAlikeLemmas.{same_length, verdict_moved}
use Rattle.esto_top.proofs.VerifyVerdictLemmas.{certifies}

-- the laws by which what is read is moved, and of what is accepted
pub record ExplainLaws : Type 0 where
  pub plan_one : PlanIsOne
  pub plan_moved : PlanIsMoved
  pub clash_moved : ClashIsMoved
  pub list_moved : ListIsMoved
  pub item : ItemIsListed
  pub moved : VerdictsAreMoved
  pub show : AcceptedCertificatesShow
  pub derive : AcceptedCertificatesDerive

module _ (laws : ExplainLaws) (number : ℕ) (catalogue : Catalogue) (query : Query) (other : Catalogue) (read : Query) (alike : AreSame catalogue other)
    (same : IsSameQuery query read) where
  -- an accepted certificate over what was read certifies the item's set over each printed plan
  certified : (plan : Plan) → IsPlanned other read plan → (items : List Listed) → IsListOf catalogue query plan items → (place : ℕ) (item : Listed)
      → slice_get items place ≡ Some item → (text : List ℕ) → HasVerdict other read plan item.set text None
      → CertifiesOverPlans catalogue query item.set text
  unfolding judges
  certified plan planned items list place item there text has its its_planned =
      let plans : IsSamePlan its plan = (laws.plan_one catalogue other query read alike same).one its plan its_planned planned in
      certifies laws.show laws.derive catalogue query its item.set text
      ((laws.item catalogue query plan items place item list there).set.0.has_candidate.over ∙ length-map plan.atoms fact_of ∙ sym (same_length its plan plans))
      (verdict_moved laws.moved catalogue other query read its plan alike same plans item.set text None has)

  query_explained : Leads (explains_query number other read) (IsExplained catalogue query number status.Done)
      (λ said. IsExplained catalogue query number said (line_of said))
  unfolding and_then judges
  query_explained = record {
    goes = λ text (plan, planned, (items, list, (place, chosen, (item, there, has)))).
        let here = laws.list_moved catalogue other query read plan items alike same list in
        explains plan items place item (laws.plan_moved catalogue other query read plan alike same planned) here chosen there refl
        (certified plan planned items here place item there text has);
    stops = λ said caused stop. elim stop [
      | inl (clash, ends, is) ↦ clashes clash (laws.clash_moved catalogue other query read clash alike same ends) is refl
      | inr (plan, planned, inl never) ↦ absurd never
      | inr (plan, planned, inr (items, list, inl none)) ↦
          has_no_set plan items (laws.plan_moved catalogue other query read plan alike same planned)
          (laws.list_moved catalogue other query read plan items alike same list) none refl
      | inr (plan, planned, inr (items, list, inr (place, chosen, inl never))) ↦ absurd never
      | inr (plan, planned, inr (items, list, inr (place, chosen, inr (item, there, never)))) ↦ absurd never
    ];
  }

pub explain_says : CataloguesOpenAlike → QueriesOpenAlike → ExplainLaws → ExplainSaysCertificates
explain_says catalogues queries laws files catalogue query number catalogue_name query_name opens query_opens =
    then-leads _ _ (AreSame catalogue) _ _ (agreed_leads AreSame _ _ catalogue _ (catalogues files catalogue_name) opens) (λ other alike.
    then-leads _ _ (IsSameQuery query) _ _ (agreed_leads IsSameQuery _ _ query _ (queries files query_name catalogue other alike) query_opens)
    (λ read same.
    then-leads _ _ (IsExplained catalogue query number status.Done) _ _ (query_explained laws number catalogue query other read alike same)
    (λ text fact. leads-more _ _ _ _ (λ reply is. (text, is, fact)) (gives-leads (Done text) _))))
