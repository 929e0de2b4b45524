use Rattle.std.proofs.Common.{◌≡◌, ◌≤◌}
use Rattle.esto_data.specs.Coding.{IsOver}
use Rattle.esto_data.proofs.DatasetLemmas.{SoFarLoaded}
use Rattle.esto_data.proofs.datasets.load_files.Given as goal

abbrev pub invariant-numbers : goal.invariant-numbers
invariant-numbers g l =
    (g.S.Shelf.files l.shelf ≡ g.S.Shelf.files l.initial.shelf) × (g.S.Shelf.faults l.initial.shelf ≤ g.S.Shelf.faults l.shelf)
    × IsOver l.catalogue.schema l.coded
    × SoFarLoaded (g.S.Shelf.files l.initial.shelf) l.catalogue.datasets l.wanted l.numbers (g.S.Shelf.asked l.initial.shelf) l.number-index l.coded
    (g.S.Shelf.asked l.shelf)
