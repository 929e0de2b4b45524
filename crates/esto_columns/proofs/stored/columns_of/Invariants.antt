use Rattle.std.proofs.Common.{◌≡◌, map, take}
use Rattle.esto_columns.specs.declared.fragment.Input.{Input}
use Rattle.esto_columns.proofs.stored.columns_of.Given as goal

abbrev pub invariant-inputs : goal.invariant-inputs
invariant-inputs l = l.columns ≡ map (λ (input : Input). input.column) (take l.input-index l.inputs)
