use Rattle.std.proofs.lemmas.Result.{IfOk-weaker}
use Rattle.esto_run.proofs.run.rows_of_set.Goals as goal

pub sorted_texts-requires : goal.sorted_texts-requires
sorted_texts-requires c = let order = c.requires.order in (c.in_ok-answers.ensures order.0 order.1).below

pub returns-clause-rows : goal.returns-clause-rows
returns-clause-rows c = IfOk-weaker c.sorted_texts.result _ _
    (λ texts shown set is_order row.
    let sorted = shown row in let answers = (c.in_ok-answers.ensures set is_order).exact row in
    ((λ inside. answers.0 (sorted.0 inside)), (λ answer. sorted.1 (answers.1 answer))))
    c.sorted_texts.ensures.rows
