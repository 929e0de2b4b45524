use Rattle.esto_plan.proofs.CandidateLemmas.{results_over_databases}
use Rattle.esto_plan.proofs.laws.results_over_databases.Goals as goal

pub returns : goal.returns
returns c = λ texts patterns plan order is_order steps coded rows views database once are_coded are fits are_rows values.
    results_over_databases texts patterns plan order is_order steps coded rows once are_coded are fits views database are_rows values
