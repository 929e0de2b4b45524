use Rattle.std.proofs.Common.{◌≡◌, take}
use Rattle.esto_steps.specs.Planned.{inputs_of}
use Rattle.esto_plan.proofs.ways.inputs_of.Given as goal

abbrev pub invariant-columns : goal.invariant-columns
invariant-columns l = l.inputs ≡ inputs_of (take l.column l.is_input-items)
