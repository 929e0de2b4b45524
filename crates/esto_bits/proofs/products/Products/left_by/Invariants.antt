use Rattle.std.proofs.Common.{◌≡◌}
use Rattle.esto_bits.proofs.JoinLemmas.{LeftSoFar}
use Rattle.esto_bits.proofs.products.Products.left_by.Given as goal

-- the sets so far that cover none of the others
abbrev pub invariant-sets : goal.invariant-sets
invariant-sets l = record {
  count : l.left.count ≡ l.self.count;
  left : LeftSoFar l.others.sets l.self.sets l.at l.left.sets;
}
