use Rattle.std.proofs.lemmas.Result.{on_ok_weaker}
use Rattle.esto_bench.proofs.fragments.add_both.Goals as goal

pub returns : goal.returns
returns c = on_ok_weaker c.push_fragment-2.result (λ added. (c.push_fragment.new.fragments, c.in_ok-push_fragment.ensures, added)) c.push_fragment-2.ensures
