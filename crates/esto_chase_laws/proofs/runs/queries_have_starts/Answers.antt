use Rattle.esto_chase_laws.proofs.EndLemmas.{start_has, start_of-IsStart}
use Rattle.esto_chase_laws.proofs.runs.queries_have_starts.Goals as goal

pub returns-clause-body : goal.returns-clause-body
returns-clause-body c = start_has

pub returns-clause-start : goal.returns-clause-start
returns-clause-start c = start_of-IsStart
