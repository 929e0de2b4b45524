use Rattle.std.proofs.Common.{ℕ, List, take}
use Rattle.esto_coded.specs.Relations.{coded_of}
use Rattle.esto_coded.specs.Spread.{Spreads}
use Rattle.esto_coded.proofs.spread.take_atoms.Given as goal

-- the codes have spread over the atoms so far
abbrev pub invariant-atoms : goal.invariant-atoms
invariant-atoms l = (texts : List (List ℕ)) → Spreads (coded_of texts l.relations) l.lead (take l.at l.atoms) l.initial.set l.set
