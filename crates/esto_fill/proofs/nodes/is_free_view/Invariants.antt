use Rattle.esto_term.specs.declared.term.Term.{Term}
use Rattle.esto_term.proofs.ListLemmas.{HoldsBelow}
use Rattle.esto_fill.specs.Nodes.{IsFree}
use Rattle.esto_fill.proofs.nodes.is_free_view.Given as goal

-- the terms of the head so far are so
abbrev pub invariant-terms : goal.invariant-terms
invariant-terms l = HoldsBelow (λ _ (term : Term). IsFree l.columns l.view.body term) l.view.head l.term-index
