use Rattle.esto_text.specs.Faults.{IsFalse}
use Rattle.esto_text.specs.Grammar.{IsLayout, IsQuery, IsConstraint}
use Rattle.esto_text.specs.Limits.{limited}
use Rattle.esto_text.proofs.SyntaxLemmas.{one_tree, no_fault, one_fault}
use Rattle.esto_text.proofs.Unique.{query_one, constraint_one, layout_one}
use Rattle.esto_text.proofs.syntax.trees_are_determined.Goals as goal

pub returns-clause-tree : goal.returns-clause-tree
returns-clause-tree c = one_tree IsQuery limited query_one

pub returns-clause-apart : goal.returns-clause-apart
returns-clause-apart c = no_fault IsQuery limited

pub returns-clause-fault : goal.returns-clause-fault
returns-clause-fault c = one_fault IsQuery limited

pub returns-clause-constraint_tree : goal.returns-clause-constraint_tree
returns-clause-constraint_tree c version bytes = one_tree (IsConstraint (IsFalse version bytes)) (λ tokens. tokens) (constraint_one (IsFalse version bytes))
    bytes

pub returns-clause-constraint_apart : goal.returns-clause-constraint_apart
returns-clause-constraint_apart c version bytes = no_fault (IsConstraint (IsFalse version bytes)) (λ tokens. tokens) bytes

pub returns-clause-constraint_fault : goal.returns-clause-constraint_fault
returns-clause-constraint_fault c version bytes = one_fault (IsConstraint (IsFalse version bytes)) (λ tokens. tokens) bytes

pub returns-clause-layout_tree : goal.returns-clause-layout_tree
returns-clause-layout_tree c = one_tree IsLayout (λ tokens. tokens) layout_one

pub returns-clause-layout_apart : goal.returns-clause-layout_apart
returns-clause-layout_apart c = no_fault IsLayout (λ tokens. tokens)

pub returns-clause-layout_fault : goal.returns-clause-layout_fault
returns-clause-layout_fault c = one_fault IsLayout (λ tokens. tokens)
