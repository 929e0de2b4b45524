use Rattle.std.proofs.Common.{[], take}
use Rattle.esto_query.specs.Trails.{with_trail}
use Rattle.esto_query.specs.Rows.{AreKnown}
use Rattle.esto_query.proofs.answer.are_known.Given as goal

abbrev pub invariant-loop-term : goal.invariant-loop-term
invariant-loop-term l = AreKnown (take l.term-index l.head) [] (with_trail l.start l.trail)
