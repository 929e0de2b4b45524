use Rattle.std.proofs.Common.{take}
use Rattle.esto_constraint.specs.Constraints.{rules_of}
use Rattle.esto_semantics.specs.Rules.{AreMet}
use Rattle.esto_constraint.proofs.meeting.first_broken.Given as goal

abbrev pub invariant-rules : goal.invariant-rules
invariant-rules l = AreMet l.facts (take l.number (rules_of l.rules))
