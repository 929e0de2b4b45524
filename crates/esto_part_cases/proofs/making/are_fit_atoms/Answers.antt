use Rattle.esto_part_cases.specs.Bodies.{IsFitAtom}
use Rattle.esto_part_cases.proofs.making.are_fit_atoms.Goals as goal
use Rattle.esto_term.proofs.ListLemmas.{each_more, each_seen}

pub atoms-preserved : goal.atoms-preserved
atoms-preserved c =
    each_more (IsFitAtom c.args.relations 100) _ _ _ c.atoms-test.true c.atom-item.is (c.is_fit_atom.ensures c.if-not-is_fit_atom.false) c.atoms.invariant

pub returns : goal.returns
returns c = λ _. each_seen (IsFitAtom c.args.relations 100) _ c.atoms.atom-index c.atoms-test.false c.atoms.invariant
