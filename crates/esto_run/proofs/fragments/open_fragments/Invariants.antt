use Rattle.std.proofs.Common.{◌≡◌, ◌≤◌}
use Rattle.esto_run.specs.Opened.{AreRowsFor, rows_held}
use Rattle.esto_run.proofs.FragmentLemmas.{SoFar}
use Rattle.esto_run.proofs.fragments.open_fragments.Given as goal

abbrev pub invariant-numbers : goal.invariant-numbers
invariant-numbers g l =
    (g.S.Shelf.files l.shelf ≡ g.S.Shelf.files l.initial.shelf) × (g.S.Shelf.faults l.initial.shelf ≤ g.S.Shelf.faults l.shelf)
    × AreRowsFor l.catalogue.fragments l.opened × SoFar (g.S.Shelf.files l.initial.shelf) l.catalogue l.numbers (g.S.Shelf.asked l.initial.shelf) l.number-index
    (rows_held l.opened) (g.S.Shelf.asked l.shelf)
