-- What `verify` says of the verdict on a certificate.
use Rattle.std.proofs.Common.{◌≡◌, ℕ, Bool, List, length, Option, Some, None, refl, sym, subst}
use Rattle.esto_mapping.specs.Catalogues.{AreSame}
use Rattle.esto_mapping.specs.declared.catalogue.Catalogue.{Catalogue}
use Rattle.esto_cert.specs.Showing.{AcceptedCertificatesDerive, AcceptedCertificatesShow, VerdictsAreOne}
use Rattle.esto_course.specs.Course.{Course, and_then, judges}
use Rattle.esto_ports.specs.Files.{Files}
use Rattle.esto_query.specs.declared.query.Query.{Query}
use Rattle.esto_term.specs.SetLaws.{NumbersTellSets}
use Rattle.esto_views.specs.declared.plan.Plan.{Plan}
use Rattle.esto_opening.specs.Alike.{CataloguesOpenAlike, QueriesOpenAlike}
use Rattle.esto_query.specs.Same.{IsSameQuery}
use Rattle.esto_status.specs.Calm.{Leads}
use Rattle.esto_status.specs.Line.{line_of}
use Rattle.esto_status.specs.declared.reply.Reply.TheVariants.{Done}
use Rattle.esto_status.specs.declared.status.Status.{Status}
use Rattle.esto_status.specs.declared.status.Status.TheVariants as status
use Rattle.esto_status.proofs.LeadLemmas.{fetches-leads, gives-leads, leads-more, then-leads, agreed_leads}
use Rattle.esto_rewriting.specs.Alike.{IsSamePlan, PlanIsOne}
use Rattle.esto_rewriting.specs.Listing.{IsPlanned}
use Rattle.esto_rewriting.specs.Planning.{plans_query}
use Rattle.esto_top.specs.CertificateLaws.{Certifies, IsSaid, SaysVerdict, VerifySaysVerdicts}
use Rattle.esto_rewriting.specs.Verify.{HasVerdict, IsAbove, IsSetOf, judges_certificate, names_set, verifies_query, verifies_set}
use Rattle.esto_status.specs.declared.limits.TheConstants.{DATA_LIMIT}
use Rattle.esto_top.proofs.VerifyAlikeLemmas.{same_length, set_not_above, sets_one, verdict_one}

-- ---- certificates that are accepted

-- what an accepted certificate shows and holds
pub certifies : AcceptedCertificatesShow → AcceptedCertificatesDerive → (catalogue : Catalogue) (query : Query) (plan : Plan) (set : List Bool)
    (bytes : List ℕ) → length set ≡ length plan.atoms → HasVerdict catalogue query plan set bytes None → Certifies catalogue query plan set bytes
certifies show derive catalogue query plan set bytes over has = record {
  accepted = has;
  contained = show plan catalogue.fragments set catalogue.rules query bytes over has;
  derived = derive plan catalogue.fragments set catalogue.rules query bytes has;
}

-- ---- up to the plan

module _ (catalogues : CataloguesOpenAlike) (queries : QueriesOpenAlike) (plans_one : PlanIsOne) (files : Files) (catalogue : Catalogue) (query : Query)
    (plan : Plan) (numbers file : List ℕ) where
  -- the numbers name a set, and the certificate for it is verified
  abbrev pub ends : Catalogue → Query → Plan → Course Status (List ℕ)
  ends other other_query other_plan =
      and_then (names_set other_plan numbers) (λ set. verifies_set (Some files) other other_query other_plan file set)

  module _ (Fact : Status → List ℕ → Type 0)
      (end : (other : Catalogue) (other_query : Query) (other_plan : Plan) → AreSame catalogue other → IsSameQuery query other_query
      → IsSamePlan plan other_plan → Leads (ends other other_query other_plan) (Fact status.Done) (λ said. Fact said (line_of said))) where
    planned_leads : (other : Catalogue) (other_query : Query) → AreSame catalogue other → IsSameQuery query other_query → IsPlanned catalogue query plan
        → Leads (verifies_query (Some files) numbers file other other_query) (Fact status.Done) (λ said. Fact said (line_of said))
    unfolding judges
    planned_leads other other_query alike same planned =
        then-leads (plans_query other other_query) (ends other other_query) (IsSamePlan plan) _ _
        (agreed_leads IsSamePlan (plans_query catalogue query) (plans_query other other_query) plan _ (plans_one catalogue other query other_query alike same)
        planned)
        (λ other_plan plans. end other other_query other_plan alike same plans)

    pub verify_says : IsSaid files catalogue query plan numbers file Fact
    verify_says catalogue_name query_name opens query_opens planned =
        then-leads _ _ (AreSame catalogue) _ _ (agreed_leads AreSame _ _ catalogue _ (catalogues files catalogue_name) opens) (λ other alike.
        then-leads _ _ (IsSameQuery query) _ _ (agreed_leads IsSameQuery _ _ query _ (queries files query_name catalogue other alike) query_opens)
        (λ other_query same.
        then-leads _ _ (Fact status.Done) _ _ (planned_leads other other_query alike same planned)
        (λ text fact. leads-more _ _ _ _ (λ reply is. (text, is, fact)) (gives-leads (Done text) _))))

-- ---- the set

module _ (tell : NumbersTellSets) (plan other_plan : Plan) (plans : IsSamePlan plan other_plan) (numbers : List ℕ) where
  here_set : (its : List Bool) → IsSetOf (length other_plan.atoms) numbers its → IsSetOf (length plan.atoms) numbers its
  here_set its is = subst (λ (it : ℕ). IsSetOf it numbers its) (sym (same_length plan other_plan plans)) is

  here_above : (said : Status) → IsAbove (length other_plan.atoms) numbers said → IsAbove (length plan.atoms) numbers said
  here_above said is = subst (λ (it : ℕ). IsAbove it numbers said) (sym (same_length plan other_plan plans)) is

  named_leads : (set : List Bool) → IsSetOf (length plan.atoms) numbers set → (Refusal : Status → Type 0)
      → Leads (names_set other_plan numbers) (λ its. set ≡ its) Refusal
  unfolding judges
  named_leads set is Refusal = record {
    goes = λ its there. sets_one tell (length plan.atoms) numbers set its is (here_set its there);
    stops = λ said caused above. absurd (set_not_above tell (length plan.atoms) numbers set said is (here_above said above));
  }

-- ---- the law

module _ (catalogues : CataloguesOpenAlike) (queries : QueriesOpenAlike) (plans_one : PlanIsOne) (tell : NumbersTellSets) (verdicts : VerdictsAreOne) where
  says_as : (verdict found : Option ℕ) (said : Status) (text : List ℕ) → verdict ≡ found → SaysVerdict found said text → SaysVerdict verdict said text
  says_as verdict found said text same says = subst (λ (it : Option ℕ). SaysVerdict it said text) (sym same) says

  judged_leads : (catalogue other : Catalogue) (query other_query : Query) (plan other_plan : Plan) → AreSame catalogue other
      → IsSameQuery query other_query → IsSamePlan plan other_plan → (set : List Bool) (bytes : List ℕ) (verdict : Option ℕ)
      → HasVerdict catalogue query plan set bytes verdict
      → Leads (judges_certificate other other_query other_plan set bytes) (SaysVerdict verdict status.Done) (λ said. SaysVerdict verdict said (line_of said))
  unfolding judges
  judged_leads catalogue other query other_query plan other_plan alike same plans set bytes verdict has =
      let one : (found : Option ℕ) → HasVerdict other other_query other_plan set bytes found → verdict ≡ found =
      (λ found there. verdict_one verdicts catalogue other query other_query plan other_plan alike same plans set bytes verdict found has there) in
      record {
        goes = λ text (there, is). says_as verdict None status.Done text (one None there) (refl, is);
        stops = λ said caused (line, there, is). says_as verdict (Some line) said (line_of said) (one (Some line) there) is;
      }

  pub says_verdicts : VerifySaysVerdicts
  says_verdicts files catalogue query plan numbers file set bytes verdict is_set within has =
      verify_says catalogues queries plans_one files catalogue query plan numbers file (SaysVerdict verdict)
      (λ other other_query other_plan alike same plans.
      then-leads _ _ (λ its. set ≡ its) _ _ (named_leads tell plan other_plan plans numbers set is_set _) (λ its is.
      subst (λ (it : List Bool). Leads (verifies_set (Some files) other other_query other_plan file it) (SaysVerdict verdict status.Done)
      (λ said. SaysVerdict verdict said (line_of said))) is
      (then-leads _ _ (λ found. found ≡ bytes) _ _ (fetches-leads files file DATA_LIMIT bytes within _) (λ found is_bytes.
      subst (λ (it : List ℕ). Leads (judges_certificate other other_query other_plan set it) (SaysVerdict verdict status.Done)
      (λ said. SaysVerdict verdict said (line_of said))) (sym is_bytes)
      (judged_leads catalogue other query other_query plan other_plan alike same plans set bytes verdict has)))))
