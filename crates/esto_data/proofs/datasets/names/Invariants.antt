use Rattle.esto_data.specs.Datasets.{HasRelation}
use Rattle.esto_term.proofs.ListLemmas.{HoldsBelow}
use Rattle.esto_data.proofs.datasets.names.Given as goal

abbrev pub invariant-atoms : goal.invariant-atoms
invariant-atoms l = HoldsBelow (λ _ atom. HasRelation l.dataset atom.relation → ⊥) l.body l.atom-index
