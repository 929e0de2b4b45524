use Rattle.esto_constraint.specs.Constraints.{rules_of}
use Rattle.esto_data.proofs.CodedAuditLemmas.{RulesSoFar}
use Rattle.esto_data.proofs.coded_audit.first_unpassed.Given as goal

abbrev pub invariant-rules : goal.invariant-rules
invariant-rules l = RulesSoFar l.initial.coded l.coded (rules_of l.laws) l.rules l.number
