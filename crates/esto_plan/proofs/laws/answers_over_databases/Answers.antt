use Rattle.esto_steps.proofs.CodedLemmas.{answers_over_a_database}
use Rattle.esto_plan.proofs.laws.answers_over_databases.Goals as goal

pub returns : goal.returns
returns c = answers_over_a_database
