use Rattle.esto_steps.specs.Rows.{IsRowOf}
use Rattle.esto_steps.proofs.MeaningLemmas.{results_are_answers}
use Rattle.esto_plan.proofs.laws.results_are_answers.Goals as goal

pub returns : goal.returns
returns c = λ texts code patterns query steps coded numbering. results_are_answers texts code numbering patterns query steps (IsRowOf coded)
