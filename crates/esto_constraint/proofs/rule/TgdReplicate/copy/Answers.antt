use Rattle.esto_constraint.proofs.RuleLemmas.{same_tuple}
use Rattle.esto_constraint.proofs.rule.TgdReplicate.copy.Goals as goal

pub invariant_of-result : goal.invariant_of-result
invariant_of-result c = record { sound = rw (c.in_ok-body.ensures.0, c.in_ok-head.ensures, c.in_ok-body.ensures.1) c.args.self.now.sound }

pub returns : goal.returns
returns c = same_tuple _ c.args.self.now c.in_ok-body.ensures.0 c.in_ok-head.ensures c.in_ok-body.ensures.1
