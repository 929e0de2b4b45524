use Rattle.std.specs.List.{flat_map}
use Rattle.esto_run.specs.Used.{fragments_of}
use Rattle.esto_run.proofs.UsedLemmas.{firsts_once}
use Rattle.esto_run.proofs.laws.used_by_all_are_one.Goals as goal

pub returns : goal.returns
returns c = λ queries. firsts_once (flat_map (λ query. fragments_of query.body) queries)
