use Rattle.std.proofs.Common.{◌≤◌, ◌-◌, length}
use Rattle.esto_bits.specs.Words.{IsWordAround}
use Rattle.esto_bits.proofs.LaneLemmas.{NowhereBelow}
use Rattle.esto_bits.proofs.lanes.has_around.Given as goal

-- no word so far is around the word
abbrev pub invariant-blocks-2 : goal.invariant-blocks-2
invariant-blocks-2 l = record {
  inside : l.at ≤ length l.words;
  so_far : NowhereBelow l.at (IsWordAround l.words l.word);
}

abbrev pub decreases-blocks-2 : goal.decreases-blocks-2
decreases-blocks-2 l = length l.words - l.at
