use Rattle.std.proofs.Common.{refl, sym, ◌∙◌, arith, below_more}
use Rattle.std.proofs.lemmas.Bool.{false≢true}
use Rattle.esto_access.proofs.SupplyLemmas.{here_nothing, nothing_at_all, nothing_here}
use Rattle.esto_access.proofs.supply.adds_nothing.Goals as goal

pub returns-then-not-covers_all : goal.returns-then-not-covers_all
returns-then-not-covers_all c = (
  λ never. absurd (false≢true never),
  λ nothing. absurd (false≢true (sym c.if-not-covers_all.true ∙ c.covers_all.ensures.1
      (here_nothing c.args.before.now c.args.after.now c.numbers.number c.item.result.now c.item-in-numbers.result.now c.item.ensures c.item-in-numbers.ensures
      nothing))),
)

pub numbers-preserved : goal.numbers-preserved
numbers-preserved c =
    below_more _ _ c.numbers.invariant
    (nothing_here c.args.before.now c.args.after.now c.numbers.number c.item.result.now c.item-in-numbers.result.now c.item.ensures c.item-in-numbers.ensures
    (c.covers_all.ensures.0 c.if-not-covers_all.false))

pub returns : goal.returns
returns c = (
  λ _. nothing_at_all c.args.before.now c.args.after.now c.numbers.number (omega (arith, c.numbers-test.false, c.len-number-end.ensures)) c.numbers.invariant,
  λ _. refl,
)
