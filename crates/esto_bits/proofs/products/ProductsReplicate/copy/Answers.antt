use Rattle.std.proofs.Common.{subst, sym}
use Rattle.esto_bits.specs.Kept.{AreOver, IsAntichain, Kept}
use Rattle.esto_bits.proofs.products.ProductsReplicate.copy.Goals as goal

pub invariant_of-result : goal.invariant_of-result
invariant_of-result c = subst (λ (it : Kept). AreOver it.count it.sets × IsAntichain it.sets) (sym c.in_ok-packed.ensures) c.self.invariant
