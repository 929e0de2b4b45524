use Rattle.std.proofs.Common.{take}
use Rattle.esto_views.specs.Reading.{AreFirstOccurrences}
use Rattle.esto_views.proofs.reading.seen_in.Given as goal

abbrev pub invariant-terms : goal.invariant-terms
invariant-terms l = AreFirstOccurrences (take l.place l.terms) l.seen
