use Rattle.std.proofs.Common.{◌≡◌, ◌++◌, take}
use Rattle.esto_known.proofs.way.places_of.Given as goal

abbrev pub invariant-links : goal.invariant-links
invariant-links l = l.places ≡ l.way.facts ++ take l.place-index l.place-items
