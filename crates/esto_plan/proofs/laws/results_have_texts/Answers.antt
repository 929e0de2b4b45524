use Rattle.esto_steps.proofs.MeaningLemmas.{results_below}
use Rattle.esto_plan.proofs.laws.results_have_texts.Goals as goal

pub returns : goal.returns
returns c = results_below
