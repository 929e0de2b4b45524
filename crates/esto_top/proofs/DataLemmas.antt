-- What `fill`, `answer` and `audit` answer where nothing is wrong with the files.
use Rattle.std.proofs.Common.{ℕ, List, Some, sym, ap, subst, ◌∙◌}
use Rattle.esto_course.specs.Course.{Course}
use Rattle.esto_top.specs.Answer.{answer_course}
use Rattle.esto_top.specs.Audit.{audit_course}
use Rattle.esto_data.specs.Exact.{IsExactAnswer, IsExactAudit, IsExactUnionAnswer}
use Rattle.esto_status.specs.Calm.{SaysAlways}
use Rattle.esto_top.specs.DataLaws.{AnswersAreExact, AuditsAreExact, UnionAnswersAreExact}
use Rattle.esto_status.specs.declared.reply.Reply.{Reply}
use Rattle.esto_status.specs.declared.status.Status.{Status}
use Rattle.esto_top.specs.DataOutcomes.{OutcomesAreAnswers, OutcomesAreAudits, OutcomesAreUnionAnswers}
use Rattle.esto_top.specs.Grammar.{course_of}
use Rattle.esto_status.specs.Replies.{reply_status, reply_text}
use Rattle.esto_top.specs.Outcome.{Says}
use Rattle.esto_top.specs.Outcome.Says.{replies, refuses}

-- what holds of the replies and refusals of a course holds of what it says
pub says_fact : (course : Course Status Reply) (Fact : Status → List ℕ → Type 0) (said : Status) (text : List ℕ) → SaysAlways course Fact
    → Says course ⊥ said text → Fact said text
says_fact course Fact said text always (replies reply goes said_is text_is) =
    let found = always.goes reply goes in
    subst (λ (it : List ℕ). Fact said it) (sym (text_is ∙ ap reply_text found.1))
    (subst (λ (it : Status). Fact it found.0) (sym (said_is ∙ ap reply_status found.1)) found.2)
says_fact course Fact said text always (refuses caused stops text_is) = subst (Fact said) (sym text_is) (always.stops said caused stops)

pub outcomes_are_answers : AnswersAreExact → OutcomesAreAnswers
outcomes_are_answers exact words files catalogue_name query_name catalogue query said text is say outcome =
    says_fact (answer_course (Some files) catalogue_name query_name) (IsExactAnswer files catalogue query) said text
    (exact files catalogue_name query_name catalogue query say.says_catalogue say.says_query)
    (subst (λ (it : List (List ℕ)). Says (course_of it (Some files)) ⊥ said text) is outcome)

pub outcomes_are_union_answers : UnionAnswersAreExact → OutcomesAreUnionAnswers
outcomes_are_union_answers exact words files catalogue_name query_name catalogue queries said text is say say_union outcome =
    says_fact (answer_course (Some files) catalogue_name query_name) (IsExactUnionAnswer files catalogue queries) said text
    (exact files catalogue_name query_name catalogue queries say say_union)
    (subst (λ (it : List (List ℕ)). Says (course_of it (Some files)) ⊥ said text) is outcome)

pub outcomes_are_audits : AuditsAreExact → OutcomesAreAudits
outcomes_are_audits exact words files name catalogue said text is say outcome =
    says_fact (audit_course (Some files) name) (IsExactAudit files catalogue) said text (exact files name catalogue say)
    (subst (λ (it : List (List ℕ)). Says (course_of it (Some files)) ⊥ said text) is outcome)
