use Rattle.std.proofs.lemmas.Result.{on_ok_weaker}
use Rattle.esto_bench.proofs.fragments.push_fragment.Goals as goal

pub returns : goal.returns
returns c = on_ok_weaker c.push.result (λ added. record {
  fragment = c.in_ok-fragment.fragment;
  added = added;
  made = c.in_ok-fragment.ensures;
}) c.push.ensures.ok
