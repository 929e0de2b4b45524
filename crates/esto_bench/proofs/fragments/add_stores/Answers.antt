use Rattle.std.proofs.lemmas.Result.{on_ok_weaker}
use Rattle.esto_term.proofs.ListLemmas.{two_more}
use Rattle.esto_bench.proofs.fragments.add_stores.Goals as goal

pub returns : goal.returns
returns c = on_ok_weaker c.push_store-2.result (λ is. two_more _ _ _ _ _ c.in_ok-push_store.ensures is) c.push_store-2.ensures
