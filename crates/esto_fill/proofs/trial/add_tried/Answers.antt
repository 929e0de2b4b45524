use Rattle.std.proofs.lemmas.Result.{on_ok_weaker}
use Rattle.esto_constraint.specs.Constraints.{rule_of, rules_of}
use Rattle.esto_fill.proofs.TrialLemmas.{tried_law, tried_more}
use Rattle.esto_fill.proofs.trial.add_tried.Goals as goal

pub returns-then-is_law : goal.returns-then-is_law
returns-then-is_law c = tried_law (rule_of c.args.rule.now) (rules_of c.args.laws.now) c.args.bodies.now (c.is_law.ensures.0 c.if-is_law.true)

pub returns : goal.returns
returns c = on_ok_weaker c.add_parts.result
    (tried_more (rule_of c.args.rule.now) (rules_of c.args.laws.now) c.args.bodies.now c.add_parts.new.bodies) c.add_parts.ensures
