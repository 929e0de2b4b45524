use Rattle.std.proofs.Common.{◌≡◌, map, take}
use Rattle.esto_steps.specs.declared.pairs.Pair.{Pair}
use Rattle.esto_steps.proofs.gather.lefts_of.Given as goal

abbrev pub invariant-pairs : goal.invariant-pairs
invariant-pairs l = l.lefts ≡ map (λ (pair : Pair). pair.left) (take l.pair-index l.pair-items)
