use Rattle.std.proofs.Common.{◌≡◌, take}
use Rattle.esto_query.specs.Trails.{with_trail}
use Rattle.esto_query.proofs.matches.extended.Given as goal

abbrev pub invariant-loop-binding : goal.invariant-loop-binding
invariant-loop-binding l = l.valuation ≡ with_trail l.start (take l.binding-index l.trail)
