use Rattle.std.proofs.Common.{sym, subst}
use Rattle.esto_coded.specs.Relations.{AreWhole}
use Rattle.esto_coded.proofs.coded.CodedFacts.index_joins.Goals as goal

pub invariant_of-self : goal.invariant_of-self
invariant_of-self c = subst AreWhole (sym c.index_atoms.ensures) c.self.invariant
