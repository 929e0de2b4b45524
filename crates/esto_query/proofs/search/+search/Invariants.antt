use Rattle.std.proofs.Common.{◌≡◌, ◌∷◌, length, drop}
use Rattle.esto_query.specs.Trails.{with_trail}
use Rattle.esto_query.proofs.LeastLemmas.{AreLeft}
use Rattle.esto_query.proofs.search.+search.Given as goal

abbrev pub decreases-search : goal.decreases-search
decreases-search l = length l.body.now

abbrev pub invariant-places : goal.invariant-places
invariant-places l = record {
  split : l.fn.body ≡ l.atom ∷ l.rest;
  trail : l.trail.items ≡ l.fn.trail.items;
  places : l.places ≡ l.fn.places;
  left : AreLeft l.atom l.rest l.facts (with_trail l.start l.fn.trail.items) l.fn.from (drop l.place-index l.left);
}
