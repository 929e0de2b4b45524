use Rattle.std.proofs.Common.{ap, ◌∙◌}
use Rattle.esto_views.specs.Names.{met_atoms, met_terms}
use Rattle.esto_views.proofs.NamingLemmas.{atoms_turn, atoms_end}
use Rattle.esto_list.proofs.text.nameless_variables.Goals as goal

pub atoms-init : goal.atoms-init
atoms-init c = ap (λ met. met_atoms c.args.plan.now.names met c.items-atom-items.result.now) c.new-met.ensures

pub atoms-preserved : goal.atoms-preserved
atoms-preserved c =
    atoms_turn c.args.plan.now.names c.items-atom-items.result.now c.atoms.atom-index c.atoms.met _ c.atoms.invariant c.atom-item.result
    c.items.result.now c.meet_terms.new.met c.atoms-test.true c.atom-item.is c.items.ensures c.in_ok-meet_terms.ensures

pub returns : goal.returns
returns c =
    let before = atoms_end c.args.plan.now.names c.items-atom-items.result.now c.atoms.atom-index c.atoms.met _ c.atoms.invariant c.atoms-test.false in
    c.in_ok-meet_terms-2.ensures ∙ ap (met_terms c.args.plan.now.names c.atoms.met) c.items-2.ensures
    ∙ ap (λ met. met_terms c.args.plan.now.names met c.args.plan.now.head)
    (before ∙ ap (met_atoms c.args.plan.now.names _) c.items-atom-items.ensures)
