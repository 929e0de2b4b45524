use Rattle.std.proofs.Common.{◌≡◌, [], replicate}
use Rattle.esto_bits.specs.Kept.{kept}
use Rattle.esto_access.proofs.supply.no_supplies.Given as goal

abbrev pub invariant-numbers : goal.invariant-numbers
invariant-numbers l = l.supplies ≡ replicate l._number (kept l.count [])
