use Rattle.esto_bits.proofs.PageLemmas.{OnPage}
use Rattle.esto_bits.proofs.pages.page_of.Given as goal

-- the first words so far are on the page
abbrev pub invariant-sets : goal.invariant-sets
invariant-sets l = OnPage l.rows l.width l.from l.at (record { all = l.all; any = l.any })
