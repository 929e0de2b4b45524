use Rattle.std.proofs.Common.{[], take}
use Rattle.esto_derive.specs.Writing.{lines_at, AddsNew}
use Rattle.esto_derive.proofs.lines.links_at.Given as goal

abbrev pub invariant-places : goal.invariant-places
invariant-places l = AddsNew [] (lines_at l.lines (take l.place-index l.places)) l.all
