use Rattle.std.proofs.Common.{◌≡◌, ℕ, false, length, get_or}
use Rattle.esto_rows.proofs.same.no_marks.Given as goal

abbrev pub invariant-places : goal.invariant-places
invariant-places l = (length l.marks ≡ l._place) × ((at : ℕ) → get_or l.marks at false ≡ false)
