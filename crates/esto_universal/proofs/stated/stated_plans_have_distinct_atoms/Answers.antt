use Rattle.esto_universal.proofs.OneLemmas.{stated_distinct}
use Rattle.esto_universal.proofs.stated.stated_plans_have_distinct_atoms.Goals as goal

pub returns : goal.returns
returns c = stated_distinct
