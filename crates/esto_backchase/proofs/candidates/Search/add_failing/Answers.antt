use Rattle.std.proofs.lemmas.Result.{on_ok_weaker}
use Rattle.esto_backchase.proofs.candidates.Search.add_failing.Goals as goal

pub returns : goal.returns
returns c = on_ok_weaker c.push.result (λ pushed. (c.in_ok-failed.failed, c.in_ok-failed.ensures, pushed)) c.push.ensures.ok
