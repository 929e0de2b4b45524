use Rattle.std.proofs.Common.{◌≡◌, take}
use Rattle.esto_bits.specs.Kept.{unions, with_sets}
use Rattle.esto_bits.proofs.products.Products.add_unions.Given as goal

-- the unions of the sets so far are added
abbrev pub invariant-sets : goal.invariant-sets
invariant-sets l = record {
  count : l.self.count ≡ l.initial.self.count;
  sets : l.self.sets ≡ with_sets l.initial.self.sets (unions (take l.at l.sets.sets) l.others.sets);
}
