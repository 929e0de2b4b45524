use Rattle.esto_text.specs.Grammar.{IsUnion}
use Rattle.esto_text.specs.Limits.{limited_union}
use Rattle.esto_text.proofs.SyntaxLemmas.{one_tree, no_fault, one_fault}
use Rattle.esto_text.proofs.UnionLemmas.{union_one, one_there, one_back}
use Rattle.esto_text.proofs.syntax.unions_are_determined.Goals as goal

pub returns-clause-one : goal.returns-clause-one
returns-clause-one c = λ bytes tree. (
  λ (tokens, are, h). (tokens, are, one_there tree tokens h),
  λ (tokens, are, h). (tokens, are, one_back tree tokens h),
)

pub returns-clause-trees : goal.returns-clause-trees
returns-clause-trees c = one_tree IsUnion limited_union union_one

pub returns-clause-apart : goal.returns-clause-apart
returns-clause-apart c = no_fault IsUnion limited_union

pub returns-clause-fault : goal.returns-clause-fault
returns-clause-fault c = one_fault IsUnion limited_union
