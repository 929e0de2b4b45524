use Rattle.std.proofs.Common.{◌≡◌, take}
use Rattle.esto_steps.specs.Inputs.{inputs_with}
use Rattle.esto_steps.proofs.asked.inputs_of.Given as goal

abbrev pub invariant-links : goal.invariant-links
invariant-links l = l.inputs ≡ inputs_with (take l.at l.link-items) l.codes
