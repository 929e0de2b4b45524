use Rattle.esto_steps.proofs.MeaningLemmas.{results_rest}
use Rattle.esto_plan.proofs.laws.results_rest_on_named_fragments.Goals as goal

pub returns : goal.returns
returns c = λ steps rows others same row.
    (results_rest steps rows others same row, results_rest steps others rows (λ get inside it. let both = same get inside it in (both.1, both.0)) row)
