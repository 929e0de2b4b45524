use Rattle.esto_semantics.proofs.UnionLemmas.{choice_is_executable, choice_exists}
use Rattle.esto_semantics.proofs.unions.choices_are_executable_unions.Goals as goal

pub returns-clause-executable : goal.returns-clause-executable
returns-clause-executable c = choice_is_executable

pub returns-clause-exist : goal.returns-clause-exist
returns-clause-exist c = choice_exists
