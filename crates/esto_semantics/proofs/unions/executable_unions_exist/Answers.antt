use Rattle.esto_semantics.proofs.UnionLemmas.{empty_excludes, empty_or_choice}
use Rattle.esto_semantics.proofs.unions.executable_unions_exist.Goals as goal

pub returns-clause-none : goal.returns-clause-none
returns-clause-none c = empty_excludes

pub returns-clause-some : goal.returns-clause-some
returns-clause-some c = empty_or_choice
