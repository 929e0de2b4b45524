use Rattle.std.proofs.Common.{◌∙◌}
use Rattle.std.proofs.lemmas.Result.{IfOk-weaker}
use Rattle.esto_run.proofs.stored.stored_rows.Goals as goal

pub returns : goal.returns
returns c = IfOk-weaker c.new.result _ _ (λ it is. λ i. record { rows = is.0 i; ways = (is.1 ∙ c.in_ok-ways.ensures) i }) c.new.ensures
