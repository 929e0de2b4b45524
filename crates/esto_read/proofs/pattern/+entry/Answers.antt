use Rattle.std.proofs.Common.{arith}
use Rattle.std.proofs.lemmas.Result.{err_from_is_err_and}
use Rattle.esto_text.specs.Faults.{IsFieldIn, IsTermIn}
use Rattle.esto_read.proofs.PatternLemmas.{lighter, nested_weight, entry_stands, value_stands, group_stands, nested_stands, value_is, group_puts, entries_more}
use Rattle.esto_read.proofs.PatternLemmas.{entries_end}
use Rattle.esto_read.proofs.pattern.+entry.Goals as goal

pub entries-entry-requires : goal.entries-entry-requires
entries-entry-requires t c = (
  omega (arith, lighter c.args.entries.now c.entries.each-index c.each-item.result c.entries-test.true c.each-item.is, c.decreases),
  (
    c.requires.utf8,
    entry_stands (IsFieldIn c.args.bytes.now) (IsTermIn c.args.bytes.now) c.args.entries.now c.entries.each-index c.each-item.result c.entries-test.true
        c.each-item.is c.requires.stand,
  ),
)

pub entries-entries-preserved : goal.entries-entries-preserved
entries-entries-preserved t c =
    rw c.in_ok-push.ensures.ok
    (entries_more c.args.bytes.now c.args.names.now c.args.entries.now c.entries.each-index c.entries.it c.entries.names c.entries.invariant
    c.each-item.result c.entries-test.true c.each-item.is c.in_ok-entry.field-0 c.entry.new.names c.in_ok-entry.ensures)

pub entries-returns : goal.entries-returns
entries-returns t c =
    entries_end c.args.bytes.now c.args.names.now c.args.entries.now c.entries.each-index c.entries.it c.entries.names c.entries.invariant
    c.entries-test.false

pub entries-entries-init : goal.entries-entries-init
entries-entries-init t c = rw c.new-it.ensures (λ rest end h. h)

pub entries-returns-in_err-entry : goal.entries-returns-in_err-entry
entries-returns-in_err-entry t c = let p = err_from_is_err_and c.from_residual.result c.from_residual.ensures.1 in rw p.1 tt

pub entries-returns-in_err-push : goal.entries-returns-in_err-push
entries-returns-in_err-push t c = let p = err_from_is_err_and c.from_residual-in_err-push.result c.from_residual-in_err-push.ensures.1 in rw p.1 tt

-- ---- an entry

pub entry-value-requires : goal.entry-value-requires
entry-value-requires t c =
    let stand = value_stands (IsFieldIn c.args.bytes.now) (IsTermIn c.args.bytes.now) c.args.entry.now c.in-Value.steps c.in-Value.token c.in-Value.is
    c.requires.stands in
    record { utf8 = c.requires.utf8; path = rw c.items.ensures stand.0; term = stand.1 }

pub entry-returns-in-Value : goal.entry-returns-in-Value
entry-returns-in-Value t c =
    rw (value_is c.args.entry.now c.in-Value.steps c.in-Value.token c.in-Value.is) (rw c.items.ensures at c.value.ensures)

pub entry-path-requires-clause-stand : goal.entry-path-requires-clause-stand
entry-path-requires-clause-stand t c =
    rw c.items-in-Group.ensures (group_stands (IsFieldIn c.args.bytes.now) (IsTermIn c.args.bytes.now) c.args.entry.now c.in-Group.steps c.in-Group.inner
    c.in-Group.is c.requires.stands).0

pub entry-entries-requires : goal.entry-entries-requires
entry-entries-requires t c = (
  omega (
    arith,
    nested_weight c.args.entry.now c.in-Group.steps c.in-Group.inner c.items-in-Group-2.result.now c.in-Group.is c.items-in-Group-2.ensures,
    c.decreases,
  ),
  (
    c.requires.utf8,
    nested_stands (IsFieldIn c.args.bytes.now) (IsTermIn c.args.bytes.now) c.args.entry.now c.in-Group.steps c.in-Group.inner c.items-in-Group-2.result.now
        c.in-Group.is c.items-in-Group-2.ensures c.requires.stands,
  ),
)

pub entry-returns-in_ok-entries-in-Group : goal.entry-returns-in_ok-entries-in-Group
entry-returns-in_ok-entries-in-Group t c =
    group_puts c.args.bytes.now c.args.names.now c.entries.new.names c.in-Group.steps c.in_ok-path-in-Group.path
    (rw c.items-in-Group.ensures at c.in_ok-path-in-Group.ensures) c.args.entry.now c.in-Group.inner c.in_ok-entries-in-Group.field-0 c.in-Group.is
    (rw c.items-in-Group-2.ensures at c.in_ok-entries-in-Group.ensures)
