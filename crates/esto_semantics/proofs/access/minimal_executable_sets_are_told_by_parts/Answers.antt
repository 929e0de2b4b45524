use Rattle.std.proofs.Common.{IsTrue}
use Rattle.esto_semantics.proofs.AccessLawLemmas.{minimal_of_parts}
use Rattle.esto_semantics.proofs.access.minimal_executable_sets_are_told_by_parts.Goals as goal

pub returns : goal.returns
returns c patterns atoms test = minimal_of_parts patterns atoms (λ set. IsTrue (test set))
