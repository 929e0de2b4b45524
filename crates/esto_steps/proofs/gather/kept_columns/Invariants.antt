use Rattle.std.proofs.Common.{◌≡◌, map, take}
use Rattle.esto_steps.specs.declared.steps.Source.{Source}
use Rattle.esto_steps.specs.Paired.{code_in, code_or_zero}
use Rattle.esto_steps.proofs.gather.kept_columns.Given as goal

abbrev pub invariant-sources : goal.invariant-sources
invariant-sources l =
    l.columns ≡ map (λ (source : Source). map (λ pair. code_or_zero (code_in l.so_far l.rows pair source)) l.pairs) (take l.source-index l.source-items)
