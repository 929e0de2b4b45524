use Rattle.std.proofs.Common.{◌≡◌, ◌+◌, ◌++◌, map, drop}
use Rattle.esto_docmodel.specs.DocumentFacts.{flat}
use Rattle.esto_docmodel.specs.Encodings.{atoms, used}
use Rattle.esto_docmodel.specs.Shapes.{entries_of}
use Rattle.esto_docmodel.proofs.encode.+entry.Given as goal

-- the atoms so far, with those of the entries that are left, are all of them, and so with the numbers
abbrev pub invariant-put_entries-entries : goal.invariant-put_entries-entries
invariant-put_entries-entries l =
    (l.body ++ map (flat l.base) (atoms (entries_of (drop l.entry-index l.entries)) l.node l.next) ≡ l.initial.body
    ++ map (flat l.base) (atoms (entries_of l.entries) l.node l.first))
    × (l.next + used (entries_of (drop l.entry-index l.entries)) ≡ l.first + used (entries_of l.entries))
