use Rattle.esto_term.specs.Sets.{Covers}
use Rattle.esto_term.proofs.ListLemmas.{HoldsBelow}
use Rattle.esto_bits.proofs.products.Products.covers_all.Given as goal

-- each of the sets so far is covered
abbrev pub invariant-sets : goal.invariant-sets
invariant-sets l = HoldsBelow (λ _ low. Covers l.self.sets low) l.others.sets l.at
