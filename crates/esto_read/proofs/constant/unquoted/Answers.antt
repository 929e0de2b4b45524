use Rattle.esto_read.proofs.QuoteLemmas.{said_pair, said_more}
use Rattle.esto_read.proofs.constant.unquoted.Goals as goal
use Rattle.esto_read.proofs.constant.unquoted.Goals.{then-in_pair, else-in_pair+in_ok-push}

pub bytes-preserved : goal.bytes-preserved
bytes-preserved c =
    elim c.if-in_pair.branch [
      | then-in_pair w ↦ rw (w.content-is, w.in_pair-is) (said_pair c.args.inside.now c.bytes.byte-index c.bytes.content c.bytes.in_pair w.if-in_pair.true
          c.bytes-test.true c.bytes.invariant)
      | else-in_pair+in_ok-push w ↦
          rw (w.content-is, w.in_pair-is, w.in_ok-push.ensures.ok) (said_more c.args.inside.now c.bytes.byte-index c.bytes.content c.bytes.in_pair
          w.if-in_pair.false c.bytes-test.true c.bytes.invariant)
    ]
