use Rattle.std.proofs.Common.{arith}
use Rattle.esto_text.proofs.GroupLemmas.{value_entry, group_entry}
use Rattle.esto_text.specs.Faults.{IsFieldIn, IsTermIn}
use Rattle.esto_read.proofs.LayoutLemmas.{one_stranger, strangers_more, stranger_found, none_strange}
use Rattle.esto_read.proofs.PatternLemmas.{entry_stands, lighter, nested_weight, nested_stands}
use Rattle.esto_read.proofs.layout.+stranger.Goals as goal

pub first_stranger-stranger_in-requires : goal.first_stranger-stranger_in-requires
first_stranger-stranger_in-requires t c = (
  omega (arith, lighter c.args.entries.now c.entries.entry-index c.entry-item.result c.entries-test.true c.entry-item.is, c.decreases),
  entry_stands (IsFieldIn c.args.bytes.now) (IsTermIn c.args.bytes.now) c.args.entries.now c.entries.entry-index c.entry-item.result c.entries-test.true
      c.entry-item.is c.requires,
)

pub stranger_in-first_stranger-requires : goal.stranger_in-first_stranger-requires
stranger_in-first_stranger-requires t c = (
  omega (arith, nested_weight c.args.entry.now c.in-Group.path c.in-Group.entries c.items.result.now c.in-Group.is c.items.ensures, c.decreases),
  nested_stands (IsFieldIn c.args.bytes.now) (IsTermIn c.args.bytes.now) c.args.entry.now c.in-Group.path c.in-Group.entries c.items.result.now c.in-Group.is
      c.items.ensures c.requires,
)

pub first_stranger-returns-in-Some : goal.first_stranger-returns-in-Some
first_stranger-returns-in-Some t c =
    stranger_found c.args.bytes.now c.args.columns.now c.args.entries.now c.entries.entry-index c.entries.invariant c.entry-item.result c.entries-test.true
    c.entry-item.is c.in-Some.fault c.in-Some.ensures

pub first_stranger-entries-preserved : goal.first_stranger-entries-preserved
first_stranger-entries-preserved t c =
    strangers_more c.args.bytes.now c.args.columns.now c.args.entries.now c.entries.entry-index c.entries.invariant c.entry-item.result c.entries-test.true
    c.entry-item.is c.in_default.ensures

pub first_stranger-returns : goal.first_stranger-returns
first_stranger-returns t c =
    none_strange c.args.bytes.now c.args.columns.now c.args.entries.now c.entries.entry-index c.entries.invariant c.entries-test.false

pub stranger_in-returns-else-not-is_stranger : goal.stranger_in-returns-else-not-is_stranger
stranger_in-returns-else-not-is_stranger t c =
    rw (c.in-Value.is, value_entry)
    (one_stranger c.args.bytes.now c.args.columns.now c.in-Value.term (c.is_stranger.ensures.0 c.if-not-is_stranger.false))

pub stranger_in-returns-in-Group : goal.stranger_in-returns-in-Group
stranger_in-returns-in-Group t c = rw (c.in-Group.is, group_entry) (rw c.items.ensures at c.first_stranger.ensures)
