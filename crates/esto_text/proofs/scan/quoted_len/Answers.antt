use Rattle.std.proofs.Common.{inl, inr, arith}
use Rattle.esto_text.proofs.ScanLemmas.{quote_reopens, quote_closes, quote_inside, quote_ends, quote_stuck}
use Rattle.esto_text.proofs.scan.quoted_len.Goals as goal
use Rattle.esto_text.proofs.scan.quoted_len.Goals.{then-byte-eq39+then-closed, then-byte-eq39+else-closed}
use Rattle.esto_text.proofs.scan.quoted_len.Goals.{else-byte-eq39+else-closed-2+else-byte-lt-LEAST_QUOTED, then-closed-2-via-then-closed-2}
use Rattle.esto_text.proofs.scan.quoted_len.Goals.{then-closed-2-via-else-closed-2+then-byte-lt-LEAST_QUOTED}

pub returns-then-closed-2 : goal.returns-then-closed-2
returns-then-closed-2 c =
    quote_ends c.args.bytes.now c.bytes.at c.bytes.found c.bytes.closed (omega arith) c.bytes.invariant
    (λ lt t. quote_stuck c.bytes.closed _ t c.if-byte-eq39.false
    (elim c.then-closed-2.branch [
      | then-closed-2-via-then-closed-2 w ↦ inl w.if-closed-2.true
      | then-closed-2-via-else-closed-2+then-byte-lt-LEAST_QUOTED w ↦
          inr w.if-byte-lt-LEAST_QUOTED.true
    ]))

pub bytes-preserved : goal.bytes-preserved
bytes-preserved c =
    elim c.if-byte-eq39.branch [
      | then-byte-eq39+then-closed w ↦ rw (w.found-is, w.closed-is) (quote_reopens c.args.bytes.now c.bytes.at c.bytes.found c.bytes-test.true
          (rw w.if-closed.true at c.bytes.invariant) w.if-byte-eq39.true)
      | then-byte-eq39+else-closed w ↦ rw (w.found-is, w.closed-is) (quote_closes c.args.bytes.now c.bytes.at c.bytes.found c.bytes-test.true
          (rw w.if-closed.false at c.bytes.invariant) w.if-byte-eq39.true)
      | else-byte-eq39+else-closed-2+else-byte-lt-LEAST_QUOTED w ↦ rw (w.found-is, w.closed-is, w.if-closed-2.false)
          (quote_inside c.args.bytes.now c.bytes.at c.bytes.found c.bytes-test.true (rw w.if-closed-2.false at c.bytes.invariant) w.if-byte-eq39.false
          w.if-byte-lt-LEAST_QUOTED.false)
    ]

pub returns : goal.returns
returns c = quote_ends c.args.bytes.now c.bytes.at c.bytes.found c.bytes.closed (omega arith) c.bytes.invariant (λ lt. absurd (omega arith))
