use Rattle.std.proofs.Common.{◌≡◌, map, take}
use Rattle.esto_columns.specs.declared.fragment.Input.{Input}
use Rattle.esto_columns.proofs.stored.codes_of.Given as goal

abbrev pub invariant-inputs : goal.invariant-inputs
invariant-inputs l = l.codes ≡ map (λ (input : Input). input.code) (take l.input-index l.inputs)
