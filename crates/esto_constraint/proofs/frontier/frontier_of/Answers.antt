use Rattle.std.proofs.Common.{[]}
use Rattle.std.specs.List.{filter}
use Rattle.esto_term.specs.Order.{same_term}
use Rattle.esto_chase_laws.specs.Joined.{joined_by}
use Rattle.esto_chase_laws.specs.Making.{is_variable_of}
use Rattle.std.proofs.Common.{ap, ◌∙◌}
use Rattle.esto_constraint.proofs.FrontierLemmas.{one_atom_more}
use Rattle.esto_constraint.proofs.frontier.frontier_of.Goals as goal

-- src/making.rt:67:5
pub atoms-preserved : goal.atoms-preserved
atoms-preserved c = one_atom_more (is_variable_of c.args.head.now) [] c.atoms.shared c.add_variables.new.shared c.args.body.now c.atoms.atom-index
    c.atom-item.result c.atoms-test.true c.atom-item.is c.atoms.invariant
    (c.in_ok-add_variables.ensures ∙ ap (λ it. joined_by same_term c.atoms.shared (filter (is_variable_of c.args.head.now) it)) c.items.ensures)
