use Rattle.std.proofs.Common.{IsTrue}
use Rattle.esto_term.specs.Sets.{Covers}
use Rattle.esto_access.proofs.CompletionLemmas.{minimal_completions}
use Rattle.esto_access.proofs.laws.minimal_completions_are_executable.Goals as goal

pub returns : goal.returns
returns c = record {
  tests = λ patterns atoms test. minimal_completions c.executable_sets_unite.ensures.part patterns atoms (λ set. IsTrue (test set));
  families = λ patterns atoms family. minimal_completions c.executable_sets_unite.ensures.part patterns atoms (Covers family);
}
