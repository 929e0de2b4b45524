use Rattle.std.proofs.Common.{◌≡◌, map, take}
use Rattle.esto_steps.specs.Paired.{code_in, code_or_zero}
use Rattle.esto_steps.proofs.pairs.read_kept.Given as goal

abbrev pub invariant-sources : goal.invariant-sources
invariant-sources l = l.codes ≡ map (λ source. code_or_zero (code_in l.so_far l.rows l.pair source)) (take l.source-index l.source-items)
