use Rattle.esto_query.specs.Trails.{with_trail}
use Rattle.esto_query.specs.Orders.{IsChoice}
use Rattle.esto_query.proofs.left.foremost_of.Given as goal

abbrev pub invariant-places : goal.invariant-places
invariant-places l = record {
  least : IsChoice l.facts l.left (with_trail l.start l.trail) l.least.choice;
  best : IsChoice l.facts l.left (with_trail l.start l.trail) l.best.choice;
}
