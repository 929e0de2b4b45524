use Rattle.esto_top.proofs.BenchEndLemmas.{summaries_exist}
use Rattle.esto_top.proofs.ends.cases_have_summaries.Goals as goal

pub returns : goal.returns
returns c = λ size some. summaries_exist c.laws_below_hold.ensures c.bench_laws_hold.ensures size some
