use Rattle.esto_condchase.proofs.LoopLemmas.{GivenSoFar}
use Rattle.esto_condchase.proofs.chase.give_all.Given as goal

abbrev pub invariant-facts : goal.invariant-facts
invariant-facts l = GivenSoFar l.facts l.atoms l.fact-index l.entries
