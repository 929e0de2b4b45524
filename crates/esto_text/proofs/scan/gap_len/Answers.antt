use Rattle.esto_text.proofs.ScanLemmas.{gap_stops, gap_ends}
use Rattle.esto_text.proofs.scan.gap_len.Goals as goal

pub returns-then-not-is_in-clause-gap : goal.returns-then-not-is_in-clause-gap
returns-then-not-is_in-clause-gap c = gap_stops c.args.bytes.now c.bytes.at c.bytes.in_comment c.if-in_comment.false c.bytes.invariant

pub returns-clause-gap : goal.returns-clause-gap
returns-clause-gap c = gap_ends c.args.bytes.now c.bytes.at c.bytes.in_comment c.bytes-test.false c.bytes.invariant
