use Rattle.std.proofs.Common.{◌+◌, ◌*◌, length, Contains, None, take}
use Rattle.esto_chase_laws.specs.declared.entry.Entry.{Entry}
use Rattle.esto_derive.specs.Searching.{IsFoundBy}
use Rattle.esto_derive.proofs.world.World.+find.Given as goal

abbrev pub decreases-find : goal.decreases-find
decreases-find l = 4 * length l.body.now

abbrev pub decreases-find_by : goal.decreases-find_by
decreases-find_by l = 4 * length l.rest.now + 3

abbrev pub decreases-find_after : goal.decreases-find_after
decreases-find_after l = 4 * length l.rest.now + 2

abbrev pub decreases-find_if_one : goal.decreases-find_if_one
decreases-find_if_one l = 4 * length l.body.now + 1

abbrev pub invariant-find-entries : goal.invariant-find-entries
invariant-find-entries l =
    (entry : Entry) → Contains (take l.place l.self.entries.now) entry
    → IsFoundBy l.self.entries.now l.self.set.now l.from l.to l.atom l.rest entry None
