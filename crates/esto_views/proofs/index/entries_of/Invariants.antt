use Rattle.std.proofs.Common.{take}
use Rattle.esto_views.specs.Indexes.{AreEntries}
use Rattle.esto_views.proofs.index.entries_of.Given as goal

abbrev pub invariant-terms : goal.invariant-terms
invariant-terms l = AreEntries (take l.place l.terms) l.entries.items
