use Rattle.std.proofs.Common.{◌≡◌, map, take}
use Rattle.esto_steps.specs.declared.steps.Source.{Source}
use Rattle.esto_steps.specs.Meaning.{code_at}
use Rattle.esto_steps.specs.Paired.{code_or_zero}
use Rattle.esto_steps.proofs.project.head_columns.Given as goal

abbrev pub invariant-sources : goal.invariant-sources
invariant-sources l =
    l.columns ≡ map (λ (source : Source). map (λ row. code_or_zero (code_at row source)) l.rows.rows) (take l.source-index l.source-items)
