use Rattle.esto_chase_laws.specs.Making.{is_variable_of}
use Rattle.esto_constraint.proofs.FrontierLemmas.{one_term_more}
use Rattle.esto_constraint.proofs.frontier.add_variables.Goals as goal

-- src/making.rt:56:5
pub terms-preserved : goal.terms-preserved
terms-preserved c =
    one_term_more (is_variable_of c.args.head.now) c.args.shared.now c.terms.shared c.add_variable.new.shared c.args.terms.now c.terms.term-index
    c.term-item.result c.terms-test.true c.term-item.is c.terms.invariant c.in_ok-add_variable.ensures
