use Rattle.esto_text.proofs.ScanLemmas.{GapSoFar}
use Rattle.esto_text.proofs.scan.gap_len.Given as goal

abbrev pub invariant-bytes : goal.invariant-bytes
invariant-bytes l = GapSoFar l.bytes l.at l.in_comment
