use Rattle.std.proofs.Common.{◌≡◌, ◌++◌, drop}
use Rattle.esto_derive.specs.Writing.{lines_at}
use Rattle.esto_derive.proofs.lines.lines_at.Given as goal

abbrev pub invariant-places : goal.invariant-places
invariant-places l = l.all ++ lines_at l.lines (drop l.place-index l.places) ≡ lines_at l.lines l.places
