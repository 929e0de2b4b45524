use Rattle.std.proofs.Common.{◌+◌, drop, get_or}
use Rattle.std.proofs.lemmas.List.{drop_more}
use Rattle.esto_cert.proofs.ReadLemmas.{digit_read}
use Rattle.esto_cert.proofs.reading.number_after.Goals as goal

pub digits-preserved : goal.digits-preserved
digits-preserved c =
    digit_read (drop c.digits.digit-index c.args.digits.now) (drop (c.digits.digit-index + 1) c.args.digits.now) c.args.digits.now c.digits.value
    (get_or c.args.digits.now c.digits.digit-index 0) c.capped-value.result (drop_more c.args.digits.now c.digits.digit-index 0 c.digits-test.true)
    c.if-digit-lt-ZERO.false c.if-digit-gt-NINE.false c.digits.invariant.1 c.capped-value.ensures
