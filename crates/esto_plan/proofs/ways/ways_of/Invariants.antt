use Rattle.std.proofs.Common.{◌≡◌, map, take}
use Rattle.esto_steps.specs.Planned.{inputs_of}
use Rattle.esto_plan.proofs.ways.ways_of.Given as goal

abbrev pub invariant-patterns : goal.invariant-patterns
invariant-patterns l = l.ways ≡ map inputs_of (take l.pattern-index l.pattern-items)
