use Rattle.std.proofs.Common.{length}
use Rattle.esto_docs.proofs.LineLemmas.{HasGone}
use Rattle.esto_docs.proofs.trees.read_lines.Given as goal

abbrev pub invariant-lines : goal.invariant-lines
invariant-lines l = HasGone l.fn.bytes l.rest l.trees l.number

abbrev pub decreases-lines : goal.decreases-lines
decreases-lines l = length l.rest
