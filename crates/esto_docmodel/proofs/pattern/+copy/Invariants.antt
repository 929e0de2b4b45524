use Rattle.std.proofs.Common.{◌≡◌, take}
use Rattle.esto_docmodel.proofs.pattern.+copy.Given as goal

-- the entries so far are copied
abbrev pub invariant-copied_entries-entries : goal.invariant-copied_entries-entries
invariant-copied_entries-entries l = l.own ≡ take l.entry-index l.entries
