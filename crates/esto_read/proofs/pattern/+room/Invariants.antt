use Rattle.esto_read.proofs.PatternLemmas.{RoomSoFar}
use Rattle.esto_read.proofs.pattern.+room.Given as goal

abbrev pub invariant-room_after_entries-entries : goal.invariant-room_after_entries-entries
invariant-room_after_entries-entries l = RoomSoFar l.entries l.room l.entry-index l.left
