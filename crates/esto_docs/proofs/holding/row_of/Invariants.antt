use Rattle.std.proofs.Common.{◌≡◌, take}
use Rattle.esto_docs.specs.Filling.{cells_of}
use Rattle.esto_docs.proofs.holding.row_of.Given as goal

abbrev pub invariant-values : goal.invariant-values
invariant-values l = l.row ≡ cells_of (take l.value-index l.values)
