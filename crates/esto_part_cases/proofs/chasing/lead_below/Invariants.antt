use Rattle.std.proofs.Common.{Contains, take}
use Rattle.esto_constraint.specs.Constraints.{rule_of}
use Rattle.esto_constraint.specs.declared.rule.Constraint.{Constraint}
use Rattle.esto_part_cases.specs.Leading.{LeadsBelow}
use Rattle.esto_part_cases.proofs.chasing.lead_below.Given as goal

abbrev pub invariant-rules : goal.invariant-rules
invariant-rules l = (rule : Constraint) → Contains (take l.rule-index l.rules) rule → LeadsBelow l.relations (rule_of rule)
