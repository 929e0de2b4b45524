use Rattle.std.proofs.Common.{◌≡◌, Bool, List, Some, map, slice_get, take}
use Rattle.esto_term.specs.Sets.{united}
use Rattle.esto_bits.specs.Kept.{with_sets}
use Rattle.esto_bits.proofs.products.Products.add_united.Given as goal

-- the unions with the sets so far are added
abbrev pub invariant-places : goal.invariant-places
invariant-places l = record {
  count : l.self.count ≡ l.initial.self.count;
  sets : (set : List Bool) → slice_get l.sets.sets l.at ≡ Some set
      → l.self.sets ≡ with_sets l.initial.self.sets (map (united set) (take l.place l.others.sets));
}
