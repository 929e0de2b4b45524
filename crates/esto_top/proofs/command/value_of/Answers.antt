use Rattle.std.proofs.Common.{refl, arith}
use Rattle.esto_top.proofs.ValueLemmas.{below_more, digit_at, number_itself, stays_low, value_more}
use Rattle.esto_top.proofs.command.value_of.Goals as goal

pub digits-init : goal.digits-init
digits-init c = (refl, omega arith)

pub overflow_mul-value : goal.overflow_mul-value
overflow_mul-value c =
    let low = stays_low c.digits.value c.digits.digit-index c.digits.invariant.1 (omega (arith, c.digits-test.true, c.requires.few)) in
    omega (arith, low)

pub overflow_add-value : goal.overflow_add-value
overflow_add-value c =
    let low = stays_low c.digits.value c.digits.digit-index c.digits.invariant.1 (omega (arith, c.digits-test.true, c.requires.few)) in
    let digit = digit_at c.args.digits.now c.digits.digit-index _ c.digits-test.true (number_itself c.args.digits.now c.digits.digit-index c.digits-test.true)
    c.requires.digits in
    omega (arith, low, digit.0, digit.1)

pub digits-preserved : goal.digits-preserved
digits-preserved c =
    let is = number_itself c.args.digits.now c.digits.digit-index c.digits-test.true in
    let digit = digit_at c.args.digits.now c.digits.digit-index _ c.digits-test.true is c.requires.digits in (
      value_more c.args.digits.now c.digits.digit-index _ c.digits-test.true is c.digits.value _ _ refl c.digits.invariant.0,
      below_more c.digits.value c.digits.digit-index _ _ c.digits.invariant.1 digit.1 refl,
    )
