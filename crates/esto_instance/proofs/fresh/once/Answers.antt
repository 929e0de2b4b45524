use Rattle.std.proofs.Common.{sym}
use Rattle.std.proofs.lemmas.Result.{IfOk-weaker}
use Rattle.esto_instance.proofs.fresh.once.Goals as goal

pub returns : goal.returns
returns c = IfOk-weaker c.fresh_facts.result _ _ (λ it is. sym is) c.fresh_facts.ensures
