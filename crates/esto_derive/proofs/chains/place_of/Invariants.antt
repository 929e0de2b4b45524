use Rattle.std.proofs.Common.{◌≢◌, Contains, take}
use Rattle.esto_derive.specs.declared.chains.Reached.{Reached}
use Rattle.esto_derive.proofs.chains.place_of.Given as goal

abbrev pub invariant-places : goal.invariant-places
invariant-places l = (it : Reached) → Contains (take l.place l.reached) it → it.term.now ≢ l.term
