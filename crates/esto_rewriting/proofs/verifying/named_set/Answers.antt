use Rattle.std.proofs.Common.{false, length, replicate, ap, ◌∙◌, arith}
use Rattle.esto_rewriting.proofs.NamingLemmas.{above_stops, named_above, named_all, named_more, named_none, set_goes}
use Rattle.esto_rewriting.proofs.verifying.named_set.Goals as goal

pub numbers-init : goal.numbers-init
numbers-init c =
    named_none (length c.args.plan.now.atoms) c.args.numbers.now c.in_ok-set.set
    (c.in_ok-set.ensures ∙ ap (λ it. replicate it false) c.len.ensures)

pub returns-then-number-count : goal.returns-then-number-count
returns-then-number-count c =
    above_stops c.args.plan.now c.args.numbers.now _ c.len-count.result c.len-count.ensures
    (named_above (length c.args.plan.now.atoms) c.args.numbers.now c.numbers.number-index c.numbers.set c.numbers.invariant c.numbers-test.true
    (omega (arith, c.if-number-count.true, c.len-count.ensures)))

pub numbers-preserved : goal.numbers-preserved
numbers-preserved c =
    named_more (length c.args.plan.now.atoms) c.args.numbers.now c.numbers.number-index c.numbers.set c.numbers.invariant c.numbers-test.true
    c.put_atom.new.set (omega (arith, c.if-number-count.false, c.len-count.ensures)) c.put_atom.ensures.count c.put_atom.ensures.has

pub returns : goal.returns
returns c =
    set_goes c.args.plan.now c.args.numbers.now c.numbers.set
    (named_all (length c.args.plan.now.atoms) c.args.numbers.now c.numbers.number-index c.numbers.set c.numbers.invariant
    (omega (arith, c.numbers-test.false)))
