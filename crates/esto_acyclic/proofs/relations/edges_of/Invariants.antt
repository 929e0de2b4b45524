use Rattle.std.proofs.Common.{◌≡◌, take}
use Rattle.esto_constraint.specs.Constraints.{rules_of}
use Rattle.esto_constraint.specs.Relations.{edges_of}
use Rattle.esto_acyclic.proofs.relations.edges_of.Given as goal

abbrev pub invariant-rules : goal.invariant-rules
invariant-rules l = l.edges ≡ edges_of (rules_of (take l.rule-index l.rules))
