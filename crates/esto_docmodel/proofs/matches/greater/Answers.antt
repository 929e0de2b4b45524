use Rattle.std.proofs.Common.{ℕ, ◌<◌}
use Rattle.esto_term.proofs.ListLemmas.{each_seen}
use Rattle.esto_docmodel.proofs.VariableLemmas.{greater_turn}
use Rattle.esto_docmodel.proofs.matches.greater.Goals as goal

pub numbers-preserved : goal.numbers-preserved
numbers-preserved c =
    greater_turn c.args.numbers.now c.numbers.number-index c.numbers.bound c.in_ok-next.next c.max-bound.result c.numbers-test.true c.in_ok-next.ensures
    c.max-bound.ensures c.numbers.invariant

pub returns : goal.returns
returns c = each_seen (λ (n : ℕ). n < c.numbers.bound) c.args.numbers.now c.numbers.number-index c.numbers-test.false c.numbers.invariant
