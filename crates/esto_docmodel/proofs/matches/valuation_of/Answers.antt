use Rattle.std.proofs.Common.{arith, get_or, ap, ◌∙◌}
use Rattle.std.specs.FinMap.{insert}
use Rattle.esto_term.specs.declared.term.Term.{Term}
use Rattle.esto_docmodel.proofs.VariableLemmas.{given_turn, given_end}
use Rattle.std.proofs.lemmas.List.{get_or_default}
use Rattle.esto_docmodel.proofs.matches.valuation_of.Goals as goal

pub variables-preserved : goal.variables-preserved
variables-preserved c =
    given_turn c.variables.valuation c.bind.new.self c.args.variables.now c.args.row.now c.variables.place (get_or c.args.variables.now c.variables.place 0) _
    c.variables-test.true (omega (arith, c.variables-test.true, c.requires))
    (get_or_default c.args.variables.now c.variables.place 0 _ c.variables-test.true) c.index-row-place.is
    (c.in_ok-bind.ensures.ok ∙ ap (λ (term : Term). insert c.variables.valuation (get_or c.args.variables.now c.variables.place 0) term) c.in_ok-term.ensures)
    c.variables.invariant

pub returns : goal.returns
returns c = given_end c.variables.valuation c.args.variables.now c.args.row.now c.variables.place c.variables-test.false c.variables.invariant
