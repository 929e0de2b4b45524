use Rattle.std.proofs.Common.{◌≡◌, ◌++◌, drop}
use Rattle.esto_derive.specs.Writing.{terms_at}
use Rattle.esto_derive.proofs.writing.terms_at.Given as goal

abbrev pub invariant-places : goal.invariant-places
invariant-places l = l.terms ++ terms_at l.entries (drop l.place-index l.places) ≡ terms_at l.entries l.places
