use Rattle.esto_views.proofs.ExpandedLemmas.{is_atom_over, expanded_more, expanded_all}
use Rattle.esto_views.proofs.expansion.expanded_facts.Goals as goal

pub expand_atom-requires : goal.expand_atom-requires
expand_atom-requires c =
    is_atom_over c.args.plan.now c.args.fragments.now _ c.atoms.number c.atom-item.result c.requires c.items-atom-items.ensures c.atoms-test.true c.atom-item.is

pub atoms-preserved : goal.atoms-preserved
atoms-preserved c =
    let (fragment, found, m, spread, more) = c.in_ok-first.ensures in
    expanded_more c.args.fragments.now c.args.plan.now.atoms _ c.atoms.number c.atoms.first c.in_ok-first.first c.atom-item.result
    fragment m c.atoms.expanded _
    (rw c.items-atom-items.ensures at c.atoms-test.true) (rw c.items-atom-items.ensures at c.atom-item.is) found spread more c.atoms.invariant

pub returns : goal.returns
returns c = expanded_all c.args.fragments.now c.args.plan.now.atoms _ c.atoms.number c.atoms.first c.atoms.expanded
    (rw c.items-atom-items.ensures at c.atoms-test.false) c.atoms.invariant
