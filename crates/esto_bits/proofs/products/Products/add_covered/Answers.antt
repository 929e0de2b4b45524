use Rattle.std.proofs.Common.{◌∙◌, refl}
use Rattle.esto_bits.proofs.JoinLemmas.{adds_none, adds_then}
use Rattle.esto_bits.proofs.products.Products.add_covered.Goals as goal

pub sets-init : goal.sets-init
sets-init c = record { count = refl; adds = adds_none c.args.sets.now.sets c.args.others.now.sets c.args.self.now.sets }

pub sets-preserved : goal.sets-preserved
sets-preserved c = record {
  count = c.add_covered_at.ensures.count ∙ c.sets.invariant.count;
  adds = adds_then c.args.sets.now.sets c.args.others.now.sets c.args.self.now.sets c.sets.self.sets c.add_covered_at.new.self.sets c.sets.invariant.adds
      c.in_ok-add_covered_at.ensures.covers;
}
