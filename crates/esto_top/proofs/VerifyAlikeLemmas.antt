-- Over catalogues that say the same, a certificate is verified in one way.
use Rattle.std.proofs.Common.{◌≡◌, ℕ, Bool, List, length, Option, Some, None, refl, sym, ap, subst, ◌∙◌}
use Rattle.std.proofs.lemmas.List.{length-map}
use Rattle.std.proofs.lemmas.Option.{none-some, same_Some}
use Rattle.esto_mapping.specs.Catalogues.{AreSame}
use Rattle.esto_mapping.specs.declared.catalogue.Catalogue.{Catalogue}
use Rattle.esto_cert.specs.Showing.{VerdictsAreMoved, VerdictsAreOne}
use Rattle.esto_course.proofs.Determined.{gives_agree, judges_agree, then_agree}
use Rattle.esto_ports.specs.Files.{Files}
use Rattle.esto_query.specs.declared.query.Query.{Query}
use Rattle.esto_semantics.specs.Queries.{ConjunctiveQuery}
use Rattle.esto_term.specs.SetLaws.{NumbersTellSets}
use Rattle.esto_views.specs.Plans.{fact_of}
use Rattle.esto_views.specs.declared.plan.Plan.{Plan}
use Rattle.esto_opening.specs.Alike.{CataloguesOpenAlike, QueriesOpenAlike}
use Rattle.esto_query.specs.Same.{IsSameQuery}
use Rattle.esto_status.specs.Calm.{AgreeCalmly, IsOne}
use Rattle.esto_status.specs.declared.reply.Reply.TheVariants.{Done}
use Rattle.esto_status.specs.declared.status.Status.{Status}
use Rattle.esto_status.specs.declared.status.Status.TheVariants.{NoSuchNumber, Rejected}
use Rattle.esto_status.proofs.AgreeLemmas.{fetches-agree}
use Rattle.esto_rewriting.specs.Alike.{IsSamePlan, PlanIsOne}
use Rattle.esto_run.proofs.SameLemmas.{same_query}
use Rattle.esto_rewriting.specs.Verify.{HasVerdict, IsAbove, IsSetOf, judges_certificate, names_set, verifies_query, verifies_set}
use Rattle.esto_top.specs.Verify.{verify_course}
use Rattle.esto_status.specs.declared.limits.TheConstants.{DATA_LIMIT}

pub same_length : (plan other : Plan) → IsSamePlan plan other → length plan.atoms ≡ length other.atoms
same_length plan other same =
    sym (length-map plan.atoms fact_of) ∙ ap (λ (it : ConjunctiveQuery). length it.body) same.0 ∙ length-map other.atoms fact_of

-- ---- the set

module _ (tell : NumbersTellSets) (count : ℕ) (numbers : List ℕ) where
  pub sets_one : (set other : List Bool) → IsSetOf count numbers set → IsSetOf count numbers other → set ≡ other
  sets_one set other here there =
      tell set other (here.over ∙ sym there.over)
      (λ atom. ((λ has. (there.exact atom).1 ((here.exact atom).0 has)), (λ has. (here.exact atom).1 ((there.exact atom).0 has))))

  above_one : (said other : Status) → IsAbove count numbers said → IsAbove count numbers other → said ≡ other
  above_one said other here there =
      here.2 ∙ ap (λ (it : ℕ). NoSuchNumber it count) (same_Some here.0 there.0 (sym here.1 ∙ there.1)) ∙ sym there.2

  pub set_not_above : (set : List Bool) (said : Status) → IsSetOf count numbers set → IsAbove count numbers said → ⊥
  set_not_above set said here there = none-some there.0 (sym here.none_above ∙ there.1)

  named_one : (plan other : Plan) → length plan.atoms ≡ count → length other.atoms ≡ count
      → AgreeCalmly ◌≡◌ (names_set plan numbers) (names_set other numbers)
  named_one plan other is is_other = judges_agree _ _ _ _ _ _
      (λ set its here there. sets_one set its (subst (λ (it : ℕ). IsSetOf it numbers set) is here)
      (subst (λ (it : ℕ). IsSetOf it numbers its) is_other there))
      (λ said its caused caused_too here there. above_one said its (subst (λ (it : ℕ). IsAbove it numbers said) is here)
      (subst (λ (it : ℕ). IsAbove it numbers its) is_other there))
      (λ set said caused here there. set_not_above set said (subst (λ (it : ℕ). IsSetOf it numbers set) is here)
      (subst (λ (it : ℕ). IsAbove it numbers said) is_other there))
      (λ set said caused here there. set_not_above set said (subst (λ (it : ℕ). IsSetOf it numbers set) is_other here)
      (subst (λ (it : ℕ). IsAbove it numbers said) is there))

-- ---- the certificate

module _ (verdicts : VerdictsAreOne) (catalogue other : Catalogue) (query other_query : Query) (plan other_plan : Plan) (alike : AreSame catalogue other)
    (same : IsSameQuery query other_query) (plans : IsSamePlan plan other_plan) (set : List Bool) (bytes : List ℕ) where
  pub verdict_one : (verdict found : Option ℕ) → HasVerdict catalogue query plan set bytes verdict → HasVerdict other other_query other_plan set bytes found
      → verdict ≡ found
  verdict_one verdict found =
      verdicts plan other_plan catalogue.fragments other.fragments set catalogue.rules other.rules query other_query bytes verdict found plans.0
      (ap (λ it. length it) plans.1) alike.views alike.rules (same_query query other_query same)

  judged_one : AgreeCalmly ◌≡◌ (judges_certificate catalogue query plan set bytes) (judges_certificate other other_query other_plan set bytes)
  judged_one = judges_agree _ _ _ _ _ _
      (λ text its here there. here.1 ∙ sym there.1)
      (λ said its caused caused_too here there.
      here.2 ∙ ap Rejected (same_Some here.0 there.0 (verdict_one (Some here.0) (Some there.0) here.1 there.1)) ∙ sym there.2)
      (λ text said caused here there. none-some there.0 (verdict_one None (Some there.0) here.0 there.1))
      (λ text said caused here there. none-some there.0 (sym (verdict_one (Some there.0) None there.1 here.0)))

-- a verdict over the other catalogue is one over this
pub verdict_moved : VerdictsAreMoved → (catalogue other : Catalogue) (query other_query : Query) (plan other_plan : Plan) → AreSame catalogue other
    → IsSameQuery query other_query → IsSamePlan plan other_plan → (set : List Bool) (bytes : List ℕ) (verdict : Option ℕ)
    → HasVerdict other other_query other_plan set bytes verdict → HasVerdict catalogue query plan set bytes verdict
verdict_moved moved catalogue other query other_query plan other_plan alike same plans set bytes verdict =
    moved other_plan plan other.fragments catalogue.fragments set other.rules catalogue.rules other_query query bytes verdict (sym plans.0)
    (ap (λ it. length it) (sym plans.1)) (sym alike.views) (sym alike.rules) (sym (same_query query other_query same))

-- ---- the command

module _ (tell : NumbersTellSets) (verdicts : VerdictsAreOne) (plans_one : PlanIsOne) (files : Files) (numbers file : List ℕ) where
  set_one : (catalogue other : Catalogue) (query other_query : Query) (plan other_plan : Plan) (set : List Bool) → AreSame catalogue other
      → IsSameQuery query other_query → IsSamePlan plan other_plan
      → AgreeCalmly ◌≡◌ (verifies_set (Some files) catalogue query plan file set) (verifies_set (Some files) other other_query other_plan file set)
  set_one catalogue other query other_query plan other_plan set alike same plans =
      then_agree _ ◌≡◌ ◌≡◌ _ _ _ _ (fetches-agree files file DATA_LIMIT) (λ bytes other_bytes goes is.
      subst (λ (it : List ℕ). AgreeCalmly ◌≡◌ (judges_certificate catalogue query plan set bytes) (judges_certificate other other_query other_plan set it)) is
      (judged_one verdicts catalogue other query other_query plan other_plan alike same plans set bytes))

  query_one : (catalogue other : Catalogue) (query other_query : Query) → AreSame catalogue other → IsSameQuery query other_query
      → AgreeCalmly ◌≡◌ (verifies_query (Some files) numbers file catalogue query) (verifies_query (Some files) numbers file other other_query)
  query_one catalogue other query other_query alike same =
      then_agree _ IsSamePlan ◌≡◌ _ _ _ _ (plans_one catalogue other query other_query alike same) (λ plan other_plan goes plans.
      then_agree _ ◌≡◌ ◌≡◌ _ _ _ _ (named_one tell (length other_plan.atoms) numbers plan other_plan (same_length plan other_plan plans) refl)
      (λ set its goes_too is.
      subst (λ (it : List Bool). AgreeCalmly ◌≡◌ (verifies_set (Some files) catalogue query plan file set)
      (verifies_set (Some files) other other_query other_plan file it)) is
      (set_one catalogue other query other_query plan other_plan set alike same plans)))

  pub verify_one : CataloguesOpenAlike → QueriesOpenAlike → (catalogue_name query_name : List ℕ)
      → IsOne (verify_course (Some files) catalogue_name query_name numbers file)
  verify_one catalogues queries catalogue_name query_name =
      then_agree _ AreSame ◌≡◌ _ _ _ _ (catalogues files catalogue_name) (λ catalogue other goes alike.
      then_agree _ IsSameQuery ◌≡◌ _ _ _ _ (queries files query_name catalogue other alike) (λ query other_query goes_too same.
      then_agree _ ◌≡◌ ◌≡◌ _ _ _ _ (query_one catalogue other query other_query alike same)
      (λ text other_text last texts. gives_agree _ (Done text) (Done other_text) (ap Done texts))))
