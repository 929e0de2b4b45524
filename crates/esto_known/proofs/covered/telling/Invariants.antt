use Rattle.std.proofs.Common.{take}
use Rattle.esto_known.specs.Told.{Tell}
use Rattle.esto_known.proofs.covered.telling.Given as goal

abbrev pub invariant-terms : goal.invariant-terms
invariant-terms l = Tell l.from (take l.term-index l.terms) l.these
