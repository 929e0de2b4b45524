use Rattle.esto_chase_laws.proofs.GoingLemmas.{goes_on}
use Rattle.esto_chase_laws.proofs.runs.states_go_on.Goals as goal

pub returns : goal.returns
returns c rules now decided = goes_on rules now decided
