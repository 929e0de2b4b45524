use Rattle.std.proofs.Common.{◌≡◌, ◌++◌, take}
use Rattle.esto_bits.proofs.products.put_copies.Given as goal

-- the sets so far are copied
abbrev pub invariant-sets : goal.invariant-sets
invariant-sets l = l.copies.items ≡ l.fn.copies.items ++ take l.at l.products.sets
