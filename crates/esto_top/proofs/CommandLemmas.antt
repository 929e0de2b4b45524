-- The courses of commands below the top call come to an end or ask for a file that is not there.
use Rattle.std.proofs.Common.{ℕ, List, Some}
use Rattle.esto_rewriting.specs.Verify.{verifies_query}
use Rattle.esto_top.specs.Verify.{verify_course}
use Rattle.esto_chase_laws.specs.RunLaws.{RulesAreDecided}
use Rattle.esto_top.specs.Answer.{answer_course}
use Rattle.esto_top.specs.Audit.{audit_course}
use Rattle.esto_ports.specs.Files.{Files}
use Rattle.esto_reasoning.specs.Contains.{compares}
use Rattle.esto_top.specs.Contains.{contains_course}
use Rattle.esto_reasoning.specs.Minimise.{minimises}
use Rattle.esto_top.specs.Minimise.{minimise_course}
use Rattle.esto_semantics.specs.Standing.{RulesStand}
use Rattle.esto_top.specs.Ends.{EndsOrLacks}
use Rattle.esto_top.specs.LawsBelow.{BelowLaws, ReadingLaws, ReasoningLaws}
use Rattle.esto_top.proofs.AnswerCourse.{answers_end}
use Rattle.esto_top.proofs.AuditLemmas.{audits_end}
use Rattle.esto_top.proofs.CourseLemmas.{ends_then}
use Rattle.esto_top.proofs.OpeningLemmas.{catalogue_opens, query_opens, query_replies, union_opens}
use Rattle.esto_top.proofs.ReasoningEndLemmas.{compares_ends, minimises_ends}
use Rattle.esto_top.proofs.VerifyLemmas.{verifies_ends}

module _ (readings : ReadingLaws) (laws : BelowLaws) (files : Files) (catalogue_name : List ℕ) where
  pub answer_ends : (query_name : List ℕ) → EndsOrLacks (answer_course (Some files) catalogue_name query_name)
  answer_ends query_name =
      ends_then _ _ (catalogue_opens readings files catalogue_name) (λ catalogue _.
      ends_then _ _ (union_opens readings files query_name catalogue) (λ queries _. answers_end laws files catalogue queries))

  pub audit_ends : RulesAreDecided → RulesStand → EndsOrLacks (audit_course (Some files) catalogue_name)
  audit_ends decide stand =
      ends_then _ _ (catalogue_opens readings files catalogue_name) (λ catalogue _. audits_end laws decide stand files catalogue)

  pub contains_ends : ReasoningLaws → (left_name right_name : List ℕ) → EndsOrLacks (contains_course (Some files) catalogue_name left_name right_name)
  contains_ends reasoning left_name right_name =
      ends_then _ _ (catalogue_opens readings files catalogue_name) (λ catalogue _.
      ends_then _ _ (query_opens readings files left_name catalogue) (λ left _.
      query_replies readings files right_name catalogue (compares catalogue left) (λ right. compares_ends laws reasoning.decide catalogue left right)))

  pub minimise_ends : ReasoningLaws → (query_name : List ℕ) → EndsOrLacks (minimise_course (Some files) catalogue_name query_name)
  minimise_ends reasoning query_name =
      ends_then _ _ (catalogue_opens readings files catalogue_name) (λ catalogue _.
      query_replies readings files query_name catalogue (minimises catalogue) (λ query. minimises_ends laws reasoning catalogue query))

  pub verify_ends : (query_name numbers file : List ℕ) → EndsOrLacks (verify_course (Some files) catalogue_name query_name numbers file)
  verify_ends query_name numbers file =
      ends_then _ _ (catalogue_opens readings files catalogue_name) (λ catalogue _.
      query_replies readings files query_name catalogue (verifies_query (Some files) numbers file catalogue)
      (λ query. verifies_ends laws files catalogue query numbers file))
