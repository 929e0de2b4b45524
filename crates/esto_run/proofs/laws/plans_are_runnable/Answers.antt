use Rattle.esto_run.proofs.RunnableLemmas.{plans_run}
use Rattle.esto_run.proofs.laws.plans_are_runnable.Goals as goal

pub returns : goal.returns
returns c = plans_run
