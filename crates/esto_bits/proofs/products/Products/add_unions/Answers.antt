use Rattle.std.proofs.Common.{◌∙◌, ap, arith}
use Rattle.std.proofs.lemmas.List.{take_all}
use Rattle.esto_term.proofs.ListLemmas.{thing_at}
use Rattle.esto_bits.specs.Kept.{unions, with_sets}
use Rattle.esto_bits.proofs.JoinLemmas.{joined_next}
use Rattle.esto_bits.proofs.products.Products.add_unions.Goals as goal

pub sets-preserved : goal.sets-preserved
sets-preserved c =
    let here = thing_at c.args.sets.now.sets c.sets.at (omega (arith, c.sets-test.true, c.len-at-end.ensures)) in
    record {
      count = c.add_united.ensures.count ∙ c.sets.invariant.count;
      sets =
          joined_next c.args.self.now.sets c.sets.self.sets c.add_united.new.self.sets c.args.sets.now.sets c.sets.at here.0 here.1
          c.args.others.now.sets (c.in_ok-add_united.ensures.ok here.0 here.1) c.sets.invariant.sets;
    }

pub returns-clause-ok : goal.returns-clause-ok
returns-clause-ok c =
    c.sets.invariant.sets
    ∙ ap (λ sets. with_sets c.args.self.now.sets (unions sets c.args.others.now.sets))
    (take_all c.sets.at c.args.sets.now.sets (omega (arith, c.sets-test.false, c.len-at-end.ensures)))
