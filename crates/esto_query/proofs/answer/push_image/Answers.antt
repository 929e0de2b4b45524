use Rattle.std.proofs.lemmas.Result.{on_ok_weaker}
use Rattle.esto_query.proofs.RowLemmas.{Adds-push}
use Rattle.esto_query.proofs.answer.push_image.Goals as goal

pub returns : goal.returns
returns c = on_ok_weaker c.push.result (λ pushed. Adds-push _ _ _ _ pushed c.in_ok-row.ensures) c.push.ensures
