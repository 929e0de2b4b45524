use Rattle.std.proofs.Common.{◌∙◌, arith, subst}
use Rattle.std.proofs.lemmas.List.{take_all}
use Rattle.esto_bits.specs.Kept.{CoverAlikeBeside}
use Rattle.esto_bits.proofs.JoinLemmas.{left_none, left_turn}
use Rattle.esto_bits.proofs.products.Products.left_by.Goals as goal

pub sets-init : goal.sets-init
sets-init c = record {
  count = c.new-left.ensures.count ∙ c.count.ensures;
  left = left_none c.args.others.now.sets c.args.self.now.sets _ c.new-left.ensures.empty;
}

pub sets-preserved : goal.sets-preserved
sets-preserved c = record {
  count = c.add_uncovered_at.ensures.count ∙ c.sets.invariant.count;
  left = left_turn c.args.others.now.sets c.args.self.now.sets c.sets.left.sets c.add_uncovered_at.new.self.sets c.sets.at c.sets.invariant.left
      c.in_ok-add_uncovered_at.ensures.covers;
}

pub returns-clause-covers : goal.returns-clause-covers
returns-clause-covers c =
    subst (λ them. CoverAlikeBeside c.args.others.now.sets them c.sets.left.sets)
    (take_all c.sets.at c.args.self.now.sets (omega (arith, c.sets-test.false, c.len-at-end.ensures))) c.sets.invariant.left
