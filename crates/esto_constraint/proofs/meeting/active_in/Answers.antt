use Rattle.std.proofs.lemmas.Result.{IfOk-weaker}
use Rattle.esto_constraint.specs.Constraints.{rule_of}
use Rattle.esto_constraint.proofs.MeetingLemmas.{outcome_of_all}
use Rattle.esto_constraint.proofs.RuleLemmas.{flat_body}
use Rattle.esto_constraint.proofs.meeting.active_in.Goals as goal

pub returns : goal.returns
returns c =
    let least = rw (c.lent-lent.ensures.same, c.lent-lent.ensures.body) at c.least_active.ensures in
    IfOk-weaker c.least_active.result _ _ (outcome_of_all c.args.facts.now (rule_of c.args.rule.now) (flat_body c.args.rule.now)) least
