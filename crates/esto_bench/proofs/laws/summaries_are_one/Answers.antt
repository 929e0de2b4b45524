use Rattle.esto_bench.proofs.SummaryLemmas.{summaries_one}
use Rattle.esto_bench.proofs.laws.summaries_are_one.Goals as goal

pub returns : goal.returns
returns c =
    summaries_one c.runs_have_one_outcome.ensures.plan c.listed_sets_are_minimal.ensures.one c.weights_exist.ensures.one c.picks_exist.ensures.one
