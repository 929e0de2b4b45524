use Rattle.std.proofs.Common.{◌≡◌, ◌++◌, take}
use Rattle.esto_known.proofs.places.put_all.Given as goal

abbrev pub invariant-more : goal.invariant-more
invariant-more l = l.places ≡ l.fn.places ++ take l.place-index l.more
