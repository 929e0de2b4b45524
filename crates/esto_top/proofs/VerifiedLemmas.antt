-- What `verify` says of numbers and of a certificate's file.
use Rattle.std.proofs.Common.{◌≡◌, ℕ, Bool, List, length, Some, None, refl, sym, ap, subst, ◌∙◌, inl, inr}
use Rattle.esto_mapping.specs.Catalogues.{AreSame}
use Rattle.esto_mapping.specs.declared.catalogue.Catalogue.{Catalogue}
use Rattle.esto_cert.specs.Showing.{AcceptedCertificatesDerive, AcceptedCertificatesShow, VerdictsAreMoved}
use Rattle.esto_course.specs.Course.{and_then, judges}
use Rattle.esto_opening.specs.Alike.{CataloguesOpenAlike, QueriesOpenAlike}
use Rattle.esto_query.specs.Same.{IsSameQuery}
use Rattle.esto_status.specs.Answers.{IsCaused}
use Rattle.esto_status.specs.Calm.{Leads}
use Rattle.esto_status.specs.Fetch.{FetchStops, HasWithin, fetches}
use Rattle.esto_status.specs.Line.{line_of}
use Rattle.esto_status.specs.declared.reply.Reply.TheVariants.{Done}
use Rattle.esto_status.specs.declared.status.Status.{Status}
use Rattle.esto_status.specs.declared.status.Status.TheVariants as status
use Rattle.esto_status.proofs.LeadLemmas.{gives-leads, leads-more, then-leads, agreed_leads}
use Rattle.esto_rewriting.specs.Alike.{ClashIsMoved, IsSamePlan, PlanIsMoved, PlanIsOne}
use Rattle.esto_rewriting.specs.Listing.{IsPlanned}
use Rattle.esto_ports.specs.Files.{Files}
use Rattle.esto_query.specs.declared.query.Query.{Query}
use Rattle.esto_views.specs.declared.plan.Plan.{Plan}
use Rattle.esto_top.specs.CertificateLaws.{IsChecked, IsVerified, VerifyChecksCertificates}
use Rattle.esto_top.specs.CertificateLaws.IsChecked.{is_above, not_fetched, accepts, rejects}
use Rattle.esto_top.specs.CertificateLaws.IsVerified.{clashes, has_plan}
use Rattle.esto_rewriting.specs.Verify.{first_above, HasVerdict, IsAbove, IsSetOf, verifies_query}
use Rattle.esto_status.specs.declared.limits.TheConstants.{DATA_LIMIT}
use Rattle.esto_top.proofs.VerifyAlikeLemmas.{same_length, verdict_moved}
use Rattle.esto_top.proofs.VerifyVerdictLemmas.{certifies}

-- the laws by which what is read is moved, and of what is accepted
pub record VerifyLaws : Type 0 where
  pub plan_one : PlanIsOne
  pub plan_moved : PlanIsMoved
  pub clash_moved : ClashIsMoved
  pub moved : VerdictsAreMoved
  pub show : AcceptedCertificatesShow
  pub derive : AcceptedCertificatesDerive

module _ (laws : VerifyLaws) (files : Files) (numbers file : List ℕ) (catalogue : Catalogue) (query : Query) (other : Catalogue) (read : Query)
    (alike : AreSame catalogue other) (same : IsSameQuery query read) where
  -- what is said over the plan of what was read is said over each printed plan
  module _ (plan : Plan) (planned : IsPlanned other read plan) where
    planned_here : IsPlanned catalogue query plan
    planned_here = laws.plan_moved catalogue other query read plan alike same planned

    module _ (any : Plan) (any_planned : IsPlanned catalogue query any) where
      plans : IsSamePlan any plan
      unfolding judges
      plans = (laws.plan_one catalogue other query read alike same).one any plan any_planned planned

      as_long : length plan.atoms ≡ length any.atoms
      as_long = sym (same_length any plan plans)

      set_here : (set : List Bool) → IsSetOf (length plan.atoms) numbers set → IsSetOf (length any.atoms) numbers set
      set_here set is_set = subst (λ (it : ℕ). IsSetOf it numbers set) as_long is_set

      above_here : (said : Status) → IsAbove (length plan.atoms) numbers said → IsChecked files catalogue query any numbers file said (line_of said)
      above_here said (number, above, is) =
          is_above number (subst (λ (it : ℕ). first_above it numbers ≡ Some number) as_long above)
          (is ∙ ap (λ (it : ℕ). status.NoSuchNumber number it) as_long) refl

      unread_here : (set : List Bool) → IsSetOf (length plan.atoms) numbers set → (said : Status) → IsCaused ⊥ said
          → FetchStops (Some files) file DATA_LIMIT said → IsChecked files catalogue query any numbers file said (line_of said)
      unread_here set is_set said caused stop = not_fetched set (set_here set is_set) caused stop refl

      module _ (set : List Bool) (is_set : IsSetOf (length plan.atoms) numbers set) (bytes : List ℕ)
          (within : HasWithin files file DATA_LIMIT bytes) where
        accepted_here : HasVerdict other read plan set bytes None → (text : List ℕ) → IsChecked files catalogue query any numbers file status.Done text
        accepted_here has text =
            accepts set bytes (set_here set is_set) within
            (certifies laws.show laws.derive catalogue query any set bytes (set_here set is_set).over
            (verdict_moved laws.moved catalogue other query read any plan alike same plans set bytes None has)) refl

        rejected_here : (line : ℕ) → HasVerdict other read plan set bytes (Some line) → (said : Status) → said ≡ status.Rejected line
            → IsChecked files catalogue query any numbers file said (line_of said)
        rejected_here line has said is =
            rejects set bytes line (set_here set is_set) within
            (verdict_moved laws.moved catalogue other query read any plan alike same plans set bytes (Some line) has) is refl

  query_verified : Leads (verifies_query (Some files) numbers file other read) (IsVerified files catalogue query numbers file status.Done)
      (λ said. IsVerified files catalogue query numbers file said (line_of said))
  unfolding and_then judges fetches
  query_verified = record {
    goes = λ text (plan, planned, (set, is_set, (bytes, fetched, (has, is)))).
        has_plan plan (planned_here plan planned) (λ any any_planned. accepted_here plan planned any any_planned set is_set bytes fetched has text);
    stops = λ said caused stop. elim stop [
      | inl (clash, ends, is) ↦ clashes clash (laws.clash_moved catalogue other query read clash alike same ends) is refl
      | inr (plan, planned, inl above) ↦
          has_plan plan (planned_here plan planned) (λ any any_planned. above_here plan planned any any_planned said above)
      | inr (plan, planned, inr (set, is_set, inl unread)) ↦
          has_plan plan (planned_here plan planned) (λ any any_planned. unread_here plan planned any any_planned set is_set said caused unread)
      | inr (plan, planned, inr (set, is_set, inr (bytes, fetched, (line, has, is)))) ↦
          has_plan plan (planned_here plan planned)
          (λ any any_planned. rejected_here plan planned any any_planned set is_set bytes fetched line has said is)
    ];
  }

pub verify_checks : CataloguesOpenAlike → QueriesOpenAlike → VerifyLaws → VerifyChecksCertificates
verify_checks catalogues queries laws files catalogue query numbers file catalogue_name query_name opens query_opens =
    then-leads _ _ (AreSame catalogue) _ _ (agreed_leads AreSame _ _ catalogue _ (catalogues files catalogue_name) opens) (λ other alike.
    then-leads _ _ (IsSameQuery query) _ _ (agreed_leads IsSameQuery _ _ query _ (queries files query_name catalogue other alike) query_opens)
    (λ read same.
    then-leads _ _ (IsVerified files catalogue query numbers file status.Done) _ _
    (query_verified laws files numbers file catalogue query other read alike same)
    (λ text fact. leads-more _ _ _ _ (λ reply is. (text, is, fact)) (gives-leads (Done text) _))))
