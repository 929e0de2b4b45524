use Rattle.esto_semantics.proofs.SubstitutionLemmas.{IsSpreadSoFar}
use Rattle.esto_views.proofs.spread.push_inner.Given as goal

abbrev pub invariant-inner : goal.invariant-inner
invariant-inner l = IsSpreadSoFar l.fn.spread.from l.fn.spread.to l.number-items l.fn.spread.next l.number-index l.spread.from l.spread.to l.spread.next
