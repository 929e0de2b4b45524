use Rattle.esto_chase.proofs.ClashLemmas.{clashed_unsatisfiable}
use Rattle.esto_chase.proofs.laws.clashed_queries_are_unsatisfiable.Goals as goal

pub returns : goal.returns
returns c rules query clash are_rules is_query clashes =
    clashed_unsatisfiable c.finished_runs_decide.ensures.alike c.queries_have_starts.ensures.start rules query are_rules is_query
    c.clashes_receive_nothing.ensures clash clashes
