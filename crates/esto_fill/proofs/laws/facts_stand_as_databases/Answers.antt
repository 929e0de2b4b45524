use Rattle.esto_fill.proofs.ValueLemmas.{facts_stand}
use Rattle.esto_fill.proofs.laws.facts_stand_as_databases.Goals as goal

pub returns : goal.returns
returns c = facts_stand
