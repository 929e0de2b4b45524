use Rattle.std.proofs.Common.{◌≡◌, ℕ, ◌+◌, ◌*◌, length, take, Contains}
use Rattle.esto_query.specs.Active.{rule_of}
use Rattle.esto_query.specs.Trails.{with_trail}
use Rattle.esto_query.proofs.ActiveLemmas.{HoldsAt}
use Rattle.esto_query.proofs.least.+least.Given as goal

abbrev pub decreases-least_through : goal.decreases-least_through
decreases-least_through l = 2 * length l.rest.now + 1

abbrev pub decreases-least_from : goal.decreases-least_from
decreases-least_from l = 2 * length l.atoms.now

-- no match with the atom at one of the places so far is active
abbrev pub invariant-least_through-places : goal.invariant-least_through-places
invariant-least_through-places l = record {
  trail : l.trail.items ≡ l.fn.trail.items;
  places : l.places ≡ l.fn.places;
  holds : (place : ℕ) → Contains (take l.place-index l.found) place
      → HoldsAt l.facts (rule_of l.rule) (with_trail l.start l.fn.trail.items) l.atom l.rest place;
}
