use Rattle.std.proofs.Common.{◌≡◌, drop}
use Rattle.esto_columns.specs.Asked.{holds_all}
use Rattle.esto_columns.proofs.stored.holds_all.Given as goal

abbrev pub invariant-inputs : goal.invariant-inputs
invariant-inputs l = holds_all l.inputs l.row ≡ holds_all (drop l.input-index l.inputs) l.row
