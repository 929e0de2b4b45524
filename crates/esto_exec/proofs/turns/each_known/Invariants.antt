use Rattle.esto_term.proofs.ListLemmas.{HoldsBelow}
use Rattle.esto_exec.specs.Slots.{side_of, IsKnown}
use Rattle.esto_exec.proofs.turns.each_known.Given as goal

abbrev pub invariant-links : goal.invariant-links
invariant-links l = HoldsBelow (λ _ link. IsKnown l.done (side_of l.arities link.source)) l.link-items l.link-index
