use Rattle.std.proofs.Common.{◌≡◌, ◌≤◌}
use Rattle.esto_data.specs.CodedParts.{Stays}
use Rattle.esto_data.proofs.RowLemmas.{SoFarRows}
use Rattle.esto_data.proofs.opened.open_all_rows.Given as goal

abbrev pub invariant-fragments : goal.invariant-fragments
invariant-fragments g l =
    (g.S.Shelf.files l.shelf ≡ g.S.Shelf.files l.initial.shelf) × (g.S.Shelf.faults l.initial.shelf ≤ g.S.Shelf.faults l.shelf)
    × Stays l.initial.coded l.coded
    × SoFarRows (g.S.Shelf.files l.initial.shelf) l.catalogue (g.S.Shelf.asked l.initial.shelf) l.number l.coded.facts.texts l.rows (g.S.Shelf.asked l.shelf)
