use Rattle.std.proofs.Common.{◌≡◌, take}
use Rattle.std.specs.List.{filter}
use Rattle.esto_term.specs.Order.{same_term}
use Rattle.esto_chase_laws.specs.Joined.{joined_by}
use Rattle.esto_chase_laws.specs.Making.{is_variable_of}
use Rattle.esto_constraint.proofs.frontier.add_variables.Given as goal

abbrev pub invariant-terms : goal.invariant-terms
invariant-terms l = l.shared ≡ joined_by same_term l.fn.shared (filter (is_variable_of l.head) (take l.term-index l.terms))
