use Rattle.std.proofs.Common.{arith, below_more}
use Rattle.esto_term.proofs.SetLemmas.{Has-within}
use Rattle.esto_access.proofs.completion.is_complete.Goals as goal

pub numbers-preserved : goal.numbers-preserved
numbers-preserved c = below_more _ _ c.numbers.invariant (c.is_supplied.ensures c.if-not-is_supplied.false)

pub returns : goal.returns
returns c = λ _ number has. c.numbers.invariant number
    (omega (arith, Has-within c.args.low.now number has, c.numbers-test.false, c.count-number-end.ensures)) has
