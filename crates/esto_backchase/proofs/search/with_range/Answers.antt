use Rattle.std.proofs.Common.{ap, length, true, ◌∙◌, arith}
use Rattle.std.proofs.lemmas.List.{length-set}
use Rattle.esto_backchase.proofs.VisitLemmas.{filled-none, filled-more, filled-all}
use Rattle.esto_backchase.proofs.search.with_range.Goals as goal

pub numbers-init : goal.numbers-init
numbers-init c = record {
  count = ap length c.in_ok-more.ensures;
  filled = filled-none c.args.set.now c.args.from c.args.to c.in_ok-more.more c.in_ok-more.ensures;
}

pub numbers-preserved : goal.numbers-preserved
numbers-preserved c = record {
  count = ap length c.insert.ensures.value ∙ length-set c.numbers.more c.numbers.number true ∙ c.numbers.invariant.count;
  filled = filled-more c.args.set.now c.args.from c.args.to c.numbers.number c.numbers.more c.insert.new.self c.numbers.auto.number c.numbers-test.true
      c.insert.ensures.has c.numbers.invariant.filled;
}

pub returns : goal.returns
returns c = filled-all c.args.set.now c.args.from c.args.to c.numbers.number c.numbers.more (omega (arith, c.numbers-test.false)) c.numbers.invariant.count
    c.numbers.invariant.filled
