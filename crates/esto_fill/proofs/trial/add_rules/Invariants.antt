use Rattle.esto_constraint.specs.Constraints.{rules_of}
use Rattle.esto_fill.specs.Trials.{KeepBodies}
use Rattle.esto_fill.proofs.TrialLemmas.{AreTriedBelow}
use Rattle.esto_fill.proofs.trial.add_rules.Given as goal

-- to the bodies have come the parts of the rules so far
abbrev pub invariant-rules : goal.invariant-rules
invariant-rules l = KeepBodies l.initial.bodies l.bodies × AreTriedBelow l.rules (rules_of l.laws) l.rule-index l.bodies
