use Rattle.std.proofs.Common.{◌≡◌, ℕ, length, get_or}
use Rattle.esto_columns.proofs.index.zeros.Given as goal

abbrev pub invariant-places : goal.invariant-places
invariant-places l = (length l.zeros ≡ l._place) × ((at : ℕ) → get_or l.zeros at 0 ≡ 0)
