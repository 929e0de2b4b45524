use Rattle.std.proofs.Common.{◌≡◌}
use Rattle.esto_bits.specs.Kept.{AddsOfBoth}
use Rattle.esto_bits.proofs.products.Products.add_covered.Given as goal

-- what was added so far
abbrev pub invariant-sets : goal.invariant-sets
invariant-sets l = record {
  count : l.self.count ≡ l.initial.self.count;
  adds : AddsOfBoth l.initial.self.sets l.sets.sets l.others.sets l.self.sets;
}
