use Rattle.std.proofs.Common.{◌≡◌, ℕ, ◌+◌, ◌*◌, length, take, Contains}
use Rattle.esto_query.specs.Active.{rule_of}
use Rattle.esto_query.specs.Trails.{with_trail}
use Rattle.esto_query.proofs.ActiveLemmas.{work, HoldsAt}
use Rattle.esto_query.proofs.active.+seek.Given as goal

abbrev pub decreases-is_active : goal.decreases-is_active
decreases-is_active l = work l.rule.now.conclusion

abbrev pub decreases-has_active : goal.decreases-has_active
decreases-has_active l = 3 * length l.atoms.now + 2 + work l.rule.now.conclusion

abbrev pub decreases-seek : goal.decreases-seek
decreases-seek l = 3 * length l.left.now + 1 + work l.rule.now.conclusion

abbrev pub decreases-seek_each : goal.decreases-seek_each
decreases-seek_each l = 3 * length l.left.now + 2 + work l.rule.now.conclusion

-- no match with the atom at one of the places so far is active
abbrev pub invariant-seek_each-places : goal.invariant-seek_each-places
invariant-seek_each-places l = record {
  left : l.left ≡ l.fn.left;
  trail : l.trail.items ≡ l.fn.trail.items;
  holds : (place : ℕ) → Contains (take l.place-index l.found) place
      → HoldsAt l.facts (rule_of l.rule) (with_trail l.start l.fn.trail.items) l.atom l.fn.left place;
}
