use Rattle.std.proofs.Common.{◌≡◌}
use Rattle.esto_term.proofs.ListLemmas.{HoldsBelow}
use Rattle.esto_steps.specs.Paired.{code_in}
use Rattle.esto_steps.proofs.pairs.are_same.Given as goal

abbrev pub invariant-sources : goal.invariant-sources
invariant-sources l = HoldsBelow (λ _ source. code_in l.so_far l.rows l.pair source ≡ code_in l.so_far l.rows l.other source) l.source-items l.source-index
