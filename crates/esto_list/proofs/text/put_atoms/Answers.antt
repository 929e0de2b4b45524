use Rattle.esto_list.specs.Text.{atom_line}
use Rattle.esto_views.proofs.PrintingLemmas.{each_turn, each_end}
use Rattle.esto_list.proofs.text.put_atoms.Goals as goal

pub atoms-preserved : goal.atoms-preserved
atoms-preserved c = each_turn (atom_line c.args.fragments.now c.args.names.now c.args.nameless.now) c.args.atoms.now c.atoms.place _ c.atoms.text
    c.atoms.invariant c.index-atoms-place.result c.put_atom.new.text c.atoms-test.true c.index-atoms-place.is c.in_ok-put_atom.ensures

pub returns : goal.returns
returns c = each_end (atom_line c.args.fragments.now c.args.names.now c.args.nameless.now) c.args.atoms.now c.atoms.place _ c.atoms.text c.atoms.invariant
    c.atoms-test.false
