use Rattle.esto_term.specs.declared.term.Term.{Term}
use Rattle.esto_term.proofs.ListLemmas.{HoldsBelow}
use Rattle.esto_data.specs.CodedParts.{IsCodedFree}
use Rattle.esto_data.proofs.coded_nodes.is_free_view.Given as goal

-- the terms of the head so far are so
abbrev pub invariant-terms : goal.invariant-terms
invariant-terms l = HoldsBelow (λ _ (term : Term). IsCodedFree l.facts l.view.body term) l.view.head l.term-index
