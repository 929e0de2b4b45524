use Rattle.esto_fill.proofs.ApartLemmas.{AreAlikeBelow}
use Rattle.esto_fill.proofs.apart.apart_rows.Given as goal

-- the lists are the same so far
abbrev pub invariant-rows : goal.invariant-rows
invariant-rows l = AreAlikeBelow l.own l.held l.place
