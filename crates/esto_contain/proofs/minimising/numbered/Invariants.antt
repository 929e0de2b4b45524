use Rattle.std.proofs.Common.{take}
use Rattle.esto_contain.specs.Numbered.{AreNumbered}
use Rattle.esto_contain.proofs.minimising.numbered.Given as goal

abbrev pub invariant-facts : goal.invariant-facts
invariant-facts l = AreNumbered (take l.number l.facts) l.expanded
