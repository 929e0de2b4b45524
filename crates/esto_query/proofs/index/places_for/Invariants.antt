use Rattle.esto_query.specs.Trails.{with_trail}
use Rattle.esto_query.specs.Indexes.{AreCandidates}
use Rattle.esto_query.proofs.index.places_for.Given as goal

abbrev pub invariant-columns : goal.invariant-columns
invariant-columns l = AreCandidates l.facts l.atom (with_trail l.start l.trail) l.best
