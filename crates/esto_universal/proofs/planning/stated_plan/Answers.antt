use Rattle.std.proofs.lemmas.Result.{IfOk-weaker}
use Rattle.esto_universal.proofs.planning.stated_plan.Goals as goal

pub returns : goal.returns
returns c = IfOk-weaker c.renamed_plan.result _ _
    (λ plan renamed. record { rows = c.in_ok-rows.rows; are_rows = c.in_ok-rows.ensures; renamed = renamed }) c.renamed_plan.ensures
