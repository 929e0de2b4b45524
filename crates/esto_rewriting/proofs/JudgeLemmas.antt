-- What is said of a judged certificate.
use Rattle.std.proofs.Common.{◌≡◌, ℕ, Bool, List, Err, Some, None, refl, subst, sym}
use Rattle.std.specs.Prelude.{codes}
use Rattle.esto_mapping.specs.declared.catalogue.Catalogue.{Catalogue}
use Rattle.esto_cert.specs.Judging.{Answers as AnswersAs}
use Rattle.esto_cert.specs.declared.check.CertError.{CertError}
use Rattle.esto_cert.specs.declared.check.CertError.TheVariants as error
use Rattle.esto_course.specs.Course.{Stops, judges}
use Rattle.esto_course.specs.Course.Stops.{refused}
use Rattle.esto_query.specs.declared.query.Query.{Query}
use Rattle.esto_views.specs.declared.plan.Plan.{Plan}
use Rattle.esto_status.specs.Answers.{IsCaused, IsWant}
use Rattle.esto_status.specs.declared.status.Status.TheVariants.{Rejected}
use Rattle.esto_rewriting.specs.Verify.{HasVerdict, judges_certificate}

module _ (catalogue : Catalogue) (query : Query) (plan : Plan) (set : List Bool) (bytes shown : List ℕ) (same : shown ≡ bytes) where
  pub accepts : HasVerdict catalogue query plan set shown None → (text : List ℕ) → text ≡ codes "accepted\n"
      → (judges_certificate catalogue query plan set bytes).goes text
  unfolding judges
  accepts has text is = (subst (λ (it : List ℕ). HasVerdict catalogue query plan set it None) same has, is)

  pub rejects : (found : CertError) (line number : ℕ) → found ≡ error.Rejected line → number ≡ line
      → AnswersAs {A = Unit {0}} (HasVerdict catalogue query plan set shown) (Err found)
      → Stops IsWant (IsCaused ⊥) (judges_certificate catalogue query plan set bytes) (Rejected number)
  unfolding judges
  rejects found line number found_is line_is has =
      let told : HasVerdict catalogue query plan set shown (Some line) =
      subst (λ (it : CertError). AnswersAs {A = Unit {0}} (HasVerdict catalogue query plan set shown) (Err it)) found_is has in
      refused (record { cause = tt }) (
        number,
        subst (λ (it : List ℕ). HasVerdict catalogue query plan set it (Some number)) same
            (subst (λ (it : ℕ). HasVerdict catalogue query plan set shown (Some it)) (sym line_is) told),
        refl,
      )
