use Rattle.esto_top.proofs.ExistLemmas.{outcomes_exist}
use Rattle.esto_top.proofs.laws.outcomes_exist.Goals as goal

pub returns : goal.returns
returns c = λ words files. outcomes_exist c.steps_hold.ensures words files
