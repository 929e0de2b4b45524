use Rattle.std.proofs.Common.{◌≡◌, ◌+◌, ◌*◌, length, take}
use Rattle.esto_query.specs.Trails.{with_trail}
use Rattle.esto_query.specs.Rows.{Adds}
use Rattle.esto_query.proofs.RowLemmas.{IsRowSeen}
use Rattle.esto_query.proofs.answer.+collect.Given as goal

abbrev pub decreases-collect : goal.decreases-collect
decreases-collect l = 2 * length l.left.now

abbrev pub decreases-collect_each : goal.decreases-collect_each
decreases-collect_each l = 2 * length l.left.now + 1

abbrev pub invariant-collect_each-places : goal.invariant-collect_each-places
invariant-collect_each-places l = record {
  left : l.left ≡ l.fn.left;
  trail : l.trail.items ≡ l.fn.trail.items;
  adds : Adds l.fn.rows.items l.rows.items (IsRowSeen l.head l.atom l.fn.left l.facts (take l.place-index l.found) (with_trail l.start l.fn.trail.items));
}
