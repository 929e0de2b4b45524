use Rattle.esto_constraint.proofs.RuleLemmas.{same_denial}
use Rattle.esto_constraint.proofs.rule.DenialReplicate.copy.Goals as goal

pub invariant_of-result : goal.invariant_of-result
invariant_of-result c = record { sound = rw (c.in_ok-body.ensures.0, c.in_ok-body.ensures.1) c.args.self.now.sound }

pub returns : goal.returns
returns c = same_denial _ c.args.self.now c.in_ok-body.ensures.0 c.in_ok-body.ensures.1
