use Rattle.std.proofs.Common.{List, Contains, length, ap, subst, ◌∙◌, arith}
use Rattle.std.proofs.lemmas.Result.{IfOk-weaker}
use Rattle.esto_term.specs.declared.term.Term.{Term}
use Rattle.esto_coded.proofs.coded.CodedFacts.judge_mirrored.Goals as goal

pub judge_half-requires-clause-some : goal.judge_half-requires-clause-some
judge_half-requires-clause-some c = let long = ap length (c.items.ensures ∙ c.in_ok-head.ensures) in omega (arith, long)

pub judge_half-requires-clause-fixed : goal.judge_half-requires-clause-fixed
judge_half-requires-clause-fixed c term inside =
    c.requires term (subst (λ (terms : List Term). Contains terms term) (c.items.ensures ∙ c.in_ok-head.ensures) inside)

pub returns-clause-judged : goal.returns-clause-judged
returns-clause-judged c = IfOk-weaker c.judge_half.result _ _
    (λ verdict judged second right. judged second c.args.left.now right c.args.shared.now (c.items.ensures ∙ c.in_ok-head.ensures))
    c.judge_half.ensures.judged
