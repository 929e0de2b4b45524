use Rattle.esto_universal.proofs.OneLemmas.{one_plan}
use Rattle.esto_universal.proofs.stated.stated_plans_are_one.Goals as goal

pub returns : goal.returns
returns c = one_plan
