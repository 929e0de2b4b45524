use Rattle.esto_backchase.proofs.VisitLemmas.{AreAbsentBelow}
use Rattle.esto_backchase.proofs.search.absent.Given as goal

abbrev pub invariant-numbers : goal.invariant-numbers
invariant-numbers l = AreAbsentBelow l.set l.number l.numbers
