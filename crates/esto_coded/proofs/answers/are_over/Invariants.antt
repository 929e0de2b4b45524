use Rattle.esto_term.proofs.ListLemmas.{HoldsBelow}
use Rattle.esto_coded.specs.Whole.{IsOver}
use Rattle.esto_coded.proofs.answers.are_over.Given as goal

abbrev pub invariant-atoms : goal.invariant-atoms
invariant-atoms l = HoldsBelow (λ _ atom. IsOver l.relations atom) l.body l.atom-index
