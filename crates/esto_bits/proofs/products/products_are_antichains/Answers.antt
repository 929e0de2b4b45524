use Rattle.std.proofs.Common.{subst}
use Rattle.esto_bits.specs.Kept.{IsAntichain}
use Rattle.esto_bits.proofs.products.products_are_antichains.Goals as goal

pub returns-clause-antichain : goal.returns-clause-antichain
returns-clause-antichain c = subst (λ kept. IsAntichain kept.sets) c.products.view_is c.products.invariant.1
