use Rattle.std.proofs.Common.{IsTrue}
use Rattle.esto_term.proofs.CoverLemmas.{minimal_tell}
use Rattle.esto_term.proofs.sets.minimal_sets_tell.Goals as goal

pub returns : goal.returns
returns c count test = minimal_tell (λ set. IsTrue (test set)) count
