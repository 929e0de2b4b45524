use Rattle.std.proofs.Common.{take}
use Rattle.esto_core.specs.Left.{IsFixing}
use Rattle.esto_core.proofs.left.fixing.Given as goal

abbrev pub invariant-terms : goal.invariant-terms
invariant-terms l = IsFixing (take l.term-index l.terms) l.start
