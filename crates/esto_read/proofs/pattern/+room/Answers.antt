use Rattle.std.proofs.Common.{refl, arith}
use Rattle.esto_text.specs.View.{entries_of}
use Rattle.esto_text.proofs.GroupLemmas.{value_entry, group_entry}
use Rattle.esto_read.specs.Items.{entries_size}
use Rattle.esto_read.proofs.PatternLemmas.{room_for_term, room_for_group, room_end, room_more, room_none}
use Rattle.esto_read.proofs.pattern.+room.Goals as goal

-- ---- an entry

pub room_after_entry-returns-in_err-left-in-Value : goal.room_after_entry-returns-in_err-left-in-Value
room_after_entry-returns-in_err-left-in-Value t c =
    rw (c.from_residual.ensures, c.in-Value.is, value_entry) (omega (arith, c.in_err-left-in-Value.ensures))

pub room_after_entry-returns-in_ok-left-in-Value : goal.room_after_entry-returns-in_ok-left-in-Value
room_after_entry-returns-in_ok-left-in-Value t c =
    rw (c.in-Value.is, value_entry)
    (room_for_term c.args.room _ c.in_ok-left-in-Value.left c.checked_sub-in-Value.result (omega (arith, c.in_ok-left-in-Value.ensures))
    c.checked_sub-in-Value.ensures)

pub room_after_entry-returns-in_err-left-in-Group : goal.room_after_entry-returns-in_err-left-in-Group
room_after_entry-returns-in_err-left-in-Group t c =
    rw (c.from_residual-in_err-left-in-Group.ensures, c.in-Group.is, group_entry) (omega (arith, c.in_err-left-in-Group.ensures))

pub room_after_entry-returns-in_ok-left-in-Group : goal.room_after_entry-returns-in_ok-left-in-Group
room_after_entry-returns-in_ok-left-in-Group t c =
    rw (c.in-Group.is, group_entry)
    (room_for_group c.args.room _ c.in_ok-left-in-Group.left (entries_size (entries_of c.in-Group.entries)) c.room_after_entries.result
    (omega (arith, c.in_ok-left-in-Group.ensures)) (rw c.items.ensures at c.room_after_entries.ensures))

-- ---- entries

pub room_after_entries-entries-init : goal.room_after_entries-entries-init
room_after_entries-entries-init t c = refl

pub room_after_entries-entries-preserved : goal.room_after_entries-entries-preserved
room_after_entries-entries-preserved t c =
    room_more c.args.entries.now c.args.room c.entries.entry-index c.entries.left c.entries.invariant c.entry-item.result c.entries-test.true c.entry-item.is
    c.in_ok-left.left c.in_ok-left.ensures

pub room_after_entries-returns-in_err-left : goal.room_after_entries-returns-in_err-left
room_after_entries-returns-in_err-left t c =
    rw c.from_residual.ensures
    (room_none c.args.entries.now c.args.room c.entries.entry-index c.entries.left c.entries.invariant c.entry-item.result c.entries-test.true c.entry-item.is
    c.in_err-left.ensures)

pub room_after_entries-returns : goal.room_after_entries-returns
room_after_entries-returns t c =
    room_end c.args.entries.now c.args.room c.entries.entry-index c.entries.left c.entries.invariant c.entries-test.false
