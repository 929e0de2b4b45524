use Rattle.std.proofs.Common.{Contains}
use Rattle.esto_term.specs.Sets.{Has}
use Rattle.esto_backchase.proofs.safety.is_fixed.Given as goal
use Rattle.esto_term.proofs.ListLemmas.{HoldsBelow}

abbrev pub invariant-atoms : goal.invariant-atoms
invariant-atoms l = HoldsBelow (λ number atom. Has l.set number → Contains atom.terms l.term → ⊥) l.atoms l.number
