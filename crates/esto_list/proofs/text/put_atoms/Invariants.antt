use Rattle.std.proofs.Common.{◌≡◌, ◌++◌, drop}
use Rattle.esto_list.specs.Text.{atom_line}
use Rattle.esto_views.specs.Printing.{each_from}
use Rattle.esto_list.proofs.text.put_atoms.Given as goal

abbrev pub invariant-atoms : goal.invariant-atoms
invariant-atoms l =
    l.text ++ each_from (atom_line l.fragments l.names l.nameless) l.place (drop l.place l.atoms)
    ≡ l.initial.text ++ each_from (atom_line l.fragments l.names l.nameless) 0 l.atoms
