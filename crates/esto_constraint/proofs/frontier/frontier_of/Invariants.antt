use Rattle.std.proofs.Common.{◌≡◌, [], take}
use Rattle.std.specs.List.{filter}
use Rattle.esto_term.specs.Order.{same_term}
use Rattle.esto_semantics.specs.Facts.{terms_of}
use Rattle.esto_chase_laws.specs.Joined.{joined_by}
use Rattle.esto_chase_laws.specs.Making.{is_variable_of}
use Rattle.esto_constraint.proofs.frontier.frontier_of.Given as goal

abbrev pub invariant-atoms : goal.invariant-atoms
invariant-atoms l = l.shared ≡ joined_by same_term [] (filter (is_variable_of l.head) (terms_of (take l.atom-index l.body)))
