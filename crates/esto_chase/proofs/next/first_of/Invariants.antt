use Rattle.esto_constraint.specs.Constraints.{rules_of}
use Rattle.esto_chase.specs.Next.{number_of, AreMetBelow}
use Rattle.esto_chase.proofs.next.first_of.Given as goal

abbrev pub invariant-rules : goal.invariant-rules
invariant-rules l = AreMetBelow (rules_of l.rules) l.facts (number_of l.kind) l.number
