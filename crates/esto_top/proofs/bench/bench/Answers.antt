use Rattle.esto_top.proofs.BenchLemmas.{bench_goes}
use Rattle.esto_top.proofs.bench.bench.Goals as goal

pub returns : goal.returns
returns c = bench_goes c.args.size c.in_ok-summary.summary c.in_ok-text.text c.in_ok-summary.ensures c.in_ok-text.ensures
