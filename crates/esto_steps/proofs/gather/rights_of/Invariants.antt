use Rattle.std.proofs.Common.{◌≡◌, map, take}
use Rattle.esto_steps.specs.declared.pairs.Pair.{Pair}
use Rattle.esto_steps.proofs.gather.rights_of.Given as goal

abbrev pub invariant-pairs : goal.invariant-pairs
invariant-pairs l = l.rights ≡ map (λ (pair : Pair). pair.right) (take l.pair-index l.pair-items)
