use Rattle.std.proofs.Common.{Some}
use Rattle.std.proofs.lemmas.Result.{IfOk-weaker}
use Rattle.esto_cert.proofs.JudgeLemmas.{found_at, no_end}
use Rattle.esto_cert.proofs.judging.Case.judge_match.Goals as goal

pub returns-in-Some : goal.returns-in-Some
returns-in-Some c =
    IfOk-weaker c.judge_found-judged.result _ _
    (λ judged is. is c.args.claims.now c.args.facts.now c.args.links.now
    (found_at c.args.claims.now c.args.self.now.query.now.body c.items-body.result.now c.args.facts.now c.args.links.now c.args.self.now.query.now.head
    c.args.self.now.targets.now c.in_ok-it.field-0 c.items-body.ensures c.in_ok-it.ensures (Some c.in-Some.it) c.in-Some.is))
    c.judge_found-judged.ensures

pub returns-in-None : goal.returns-in-None
returns-in-None c = (
  (λ claim wrong. wrong),
  (λ it. no_end c.args.claims.now c.args.self.now.query.now.body c.items-body.result.now c.args.facts.now c.args.links.now c.args.self.now.query.now.head
      c.args.self.now.targets.now c.in_ok-it.field-0 c.items-body.ensures c.in_ok-it.ensures c.in-None.is it.0 it.1 it.2),
)
