use Rattle.std.proofs.Common.{take, Contains}
use Rattle.esto_condchase.specs.Ways.{Grown, Comes, GoesOn}
use Rattle.esto_known.specs.KeptWays.{AreCounted}
use Rattle.esto_known.specs.declared.way.Way.{Way}
use Rattle.esto_condchase.proofs.steps.match_all.Given as goal

abbrev pub invariant-given : goal.invariant-given
invariant-given l = record {
  grown : Grown (λ (way : Way). (before : Way) × Contains l.given before × Comes l.level.known.now l.level.from.now l.level.atom.now before way) l.fn.kept
      l.kept;
  tried : (before : Way) → Contains (take l.before-index l.given) before
      → GoesOn l.level.known.now l.level.since l.level.from.now l.level.atom.now l.level.sides l.level.places.now before l.kept;
  counted : AreCounted l.count l.kept;
}
