use Rattle.esto_plan.proofs.CandidateLemmas.{results_are_candidate_answers}
use Rattle.esto_plan.proofs.laws.results_are_candidate_answers.Goals as goal

pub returns : goal.returns
returns c = λ texts patterns plan order is_order steps coded rows once are_coded are fits row. results_are_candidate_answers texts patterns plan order is_order
    steps coded rows once are_coded are fits row
