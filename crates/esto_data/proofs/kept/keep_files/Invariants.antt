use Rattle.std.proofs.Common.{◌≡◌, ◌≤◌}
use Rattle.esto_data.specs.Coding.{IsCodedFrom, IsOver}
use Rattle.esto_data.proofs.DatasetLemmas.{IsAlongFiles}
use Rattle.esto_data.proofs.kept.keep_files.Given as goal

abbrev pub invariant-numbers : goal.invariant-numbers
invariant-numbers g l =
    (g.S.Shelf.files l.shelf ≡ g.S.Shelf.files l.initial.shelf) × (g.S.Shelf.faults l.initial.shelf ≤ g.S.Shelf.faults l.shelf)
    × IsOver l.catalogue.schema l.coded
    × IsAlongFiles (g.S.Shelf.files l.initial.shelf) l.catalogue.datasets l.numbers (g.S.Shelf.asked l.initial.shelf) l.number-index l.files
    (g.S.Shelf.asked l.shelf)
    × IsCodedFrom l.catalogue.datasets l.wanted l.files l.coded
