use Rattle.std.proofs.Common.{List, ◌∷◌, length, ◌+◌, ◌*◌, ◌≤◌, ◌<◌, ◌≡◌, false}
use Rattle.esto_text.specs.Machine.{Symbol, AnEntry, MoreEntries}
use Rattle.esto_text.proofs.RowLemmas.{Goes}
use Rattle.esto_text.proofs.GroupLemmas.{AreGroup}
use Rattle.esto_text.proofs.groups.+group.Given as goal

abbrev pub decreases-entry : goal.decreases-entry
decreases-entry l = 2 * length l.tokens.now

abbrev pub decreases-group : goal.decreases-group
decreases-group l = 2 * length l.tokens.now + 1

abbrev pub invariant-group-entries : goal.invariant-group-entries
invariant-group-entries l =
    record {
      left : length l.rest ≤ length l.tokens;
      goes : (s : List Symbol) → Goes (AreGroup l.depth) (AnEntry l.depth ∷ MoreEntries l.depth ∷ s) s l.tokens
          l.entries l.rest l.more;
      shorter : l.more ≡ false → length l.rest < length l.tokens;
    }

abbrev pub decreases-group-entries : goal.decreases-group-entries
decreases-group-entries l = length l.rest
