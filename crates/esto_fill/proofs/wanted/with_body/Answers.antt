use Rattle.esto_term.proofs.ListLemmas.{Contains-nil}
use Rattle.esto_fill.proofs.WantedLemmas.{atoms_all, atoms_more}
use Rattle.esto_fill.proofs.wanted.with_body.Goals as goal

pub atoms-init : goal.atoms-init
atoms-init c = ((λ it there. there), λ atom inside. absurd (Contains-nil atom inside))

pub atoms-preserved : goal.atoms-preserved
atoms-preserved c =
    atoms_more c.args.relation c.args.body.now c.atoms.atom-index c.atom-item.result c.args.texts c.atoms.all c.in_ok-all.all c.atoms-test.true
    c.atom-item.is c.atoms.invariant c.in_ok-all.ensures

pub returns : goal.returns
returns c = atoms_all c.args.relation c.args.body.now c.atoms.atom-index c.args.texts c.atoms.all c.atoms-test.false c.atoms.invariant
