use Rattle.std.proofs.Common.{◌≡◌, ◌==◌, ◌+◌, ◌≤◌, length, drop}
use Rattle.std.specs.Prelude.{count_by}
use Rattle.std.specs.List.{slice_split}
use Rattle.esto_stores.specs.Keys.{tab}
use Rattle.esto_stores.proofs.coded_keys.count_cells.Given as goal

abbrev pub invariant-bytes : goal.invariant-bytes
invariant-bytes l =
    (l.count ≤ l.byte-index + 1)
    × (length (slice_split (λ b. b == tab) l.line) ≡ l.count + count_by (λ b. b == tab) (drop l.byte-index l.line))
