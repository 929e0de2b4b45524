use Rattle.std.proofs.Common.{◌≡◌, filter, not, take}
use Rattle.esto_bits.specs.Kept.{is_within, kept}
use Rattle.esto_bits.specs.Words.{set_of}
use Rattle.esto_bits.proofs.packed.PackedSets.push_for_supersets.Given as goal

-- the sets so far that are no supersets
abbrev pub invariant-sets : goal.invariant-sets
invariant-sets l = l.self ≡ kept l.others.count (filter (λ set. not (is_within (set_of l.row l.others.count) set)) (take l.at l.others.sets))
