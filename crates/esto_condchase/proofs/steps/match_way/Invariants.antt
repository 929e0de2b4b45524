use Rattle.std.proofs.Common.{ℕ, take, Contains}
use Rattle.esto_condchase.specs.Ways.{Grown, Comes}
use Rattle.esto_known.specs.KeptWays.{AreCounted}
use Rattle.esto_condchase.proofs.StepLemmas.{GoesSince}
use Rattle.esto_condchase.proofs.steps.match_way.Given as goal

abbrev pub invariant-facts : goal.invariant-facts
invariant-facts l = record {
  grown : Grown (Comes l.level.known.now l.level.from.now l.level.atom.now l.before) l.fn.kept l.kept;
  tried : (place : ℕ) → Contains (take l.place-index l.place-items) place
      → GoesSince l.level.known.now l.level.since l.level.from.now l.level.atom.now l.level.sides l.level.places.now l.before l.kept place;
  counted : AreCounted l.count l.kept;
}
