use Rattle.esto_read.proofs.QuoteLemmas.{SaidSoFar}
use Rattle.esto_read.proofs.constant.unquoted.Given as goal

abbrev pub invariant-bytes : goal.invariant-bytes
invariant-bytes l = SaidSoFar l.inside l.byte-index l.content l.in_pair
