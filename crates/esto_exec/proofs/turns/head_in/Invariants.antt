use Rattle.std.proofs.Common.{◌≡◌, map, take}
use Rattle.esto_exec.specs.Slots.{side_of}
use Rattle.esto_exec.specs.Turns.{source_in}
use Rattle.esto_exec.proofs.turns.head_in.Given as goal

abbrev pub invariant-sources : goal.invariant-sources
invariant-sources l = l.sources ≡ map (λ source. source_in l.places (side_of l.arities source)) (take l.source-index l.source-items)
