use Rattle.std.proofs.Common.{◌+◌}
use Rattle.esto_term.proofs.ListLemmas.{HoldsBelow}
use Rattle.esto_steps.specs.Named.{IsEarly}
use Rattle.esto_steps.proofs.gather.are_within.Given as goal

abbrev pub invariant-sources : goal.invariant-sources
invariant-sources l = HoldsBelow (λ _ source. IsEarly (l.width + l.more) source) l.source-items l.source-index
