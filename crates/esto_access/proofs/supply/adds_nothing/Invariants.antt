use Rattle.esto_access.proofs.SupplyLemmas.{AddNothingBelow}
use Rattle.esto_access.proofs.supply.adds_nothing.Given as goal

abbrev pub invariant-numbers : goal.invariant-numbers
invariant-numbers l = AddNothingBelow l.before l.after l.number
