use Rattle.std.proofs.Common.{◌⊎◌, ℕ, take, Contains}
use Rattle.esto_known.specs.Live.{IsStale}
use Rattle.esto_known.proofs.fresh.fresh_of.Given as goal

-- the facts so far are there or stale
abbrev pub invariant-facts : goal.invariant-facts
invariant-facts l = (place : ℕ) → Contains (take l.place-index l.facts) place → Contains l.places place ⊎ IsStale l.known l.since place
