use Rattle.std.proofs.lemmas.Result.{on_ok_weaker}
use Rattle.esto_universal.proofs.rows.push_view_rows.Goals as goal

pub returns : goal.returns
returns c =
    on_ok_weaker c.push_rows.result
    (λ more. (c.in_ok-rows.rows, record { exact = c.in_ok-rows.ensures.rows; ordered = c.in_ok-rows.ensures.ascending }, more))
    c.push_rows.ensures
