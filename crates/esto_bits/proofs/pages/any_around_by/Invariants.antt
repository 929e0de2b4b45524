use Rattle.std.proofs.Common.{◌*◌}
use Rattle.esto_bits.specs.Pages.{HasAround}
use Rattle.esto_bits.proofs.LaneLemmas.{NoGroupBelow}
use Rattle.esto_bits.proofs.pages.any_around_by.Given as goal

-- no group of the pages so far fits
abbrev pub invariant-pages : goal.invariant-pages
invariant-pages l = NoGroupBelow l.rows l.width (HasAround l.row) (l.place * 64)
