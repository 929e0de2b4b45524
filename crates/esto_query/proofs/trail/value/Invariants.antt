use Rattle.std.proofs.Common.{◌≡◌}
use Rattle.std.specs.FinMap.{get}
use Rattle.esto_query.specs.Trails.{with_trail}
use Rattle.esto_query.proofs.TrailLemmas.{given_by}
use Rattle.esto_query.proofs.trail.value.Given as goal

abbrev pub invariant-loop-at : goal.invariant-loop-at
invariant-loop-at l = given_by l.start l.trail l.variable l.at ≡ get (with_trail l.start l.trail) l.variable
