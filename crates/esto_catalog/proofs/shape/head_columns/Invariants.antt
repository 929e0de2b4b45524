use Rattle.std.proofs.Common.{◌≡◌, map, take}
use Rattle.esto_catalog.specs.Shapes.{column_of}
use Rattle.esto_catalog.proofs.shape.head_columns.Given as goal

abbrev pub invariant-terms : goal.invariant-terms
invariant-terms l = l.columns ≡ map (column_of l.view.names) (take l.term-index l.term-items)
