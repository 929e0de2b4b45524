use Rattle.esto_semantics.proofs.CandidateLemmas.{candidate-IsExecutableRewriting}
use Rattle.esto_semantics.proofs.plans.candidates_of_rewritings_are_executable_rewritings.Goals as goal

pub returns : goal.returns
returns c = candidate-IsExecutableRewriting
