use Rattle.esto_steps.proofs.CodedLemmas.{results_are_answers_in_texts}
use Rattle.esto_plan.proofs.laws.results_are_answers_in_texts.Goals as goal

pub returns : goal.returns
returns c = results_are_answers_in_texts
