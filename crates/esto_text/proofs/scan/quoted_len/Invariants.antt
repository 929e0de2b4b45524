use Rattle.esto_text.proofs.ScanLemmas.{QuoteSoFar}
use Rattle.esto_text.proofs.scan.quoted_len.Given as goal

abbrev pub invariant-bytes : goal.invariant-bytes
invariant-bytes l = QuoteSoFar l.bytes l.at l.found l.closed
