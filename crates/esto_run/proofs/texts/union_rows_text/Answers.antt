use Rattle.std.proofs.lemmas.Result.{IfOk-weaker}
use Rattle.esto_term.proofs.ListLemmas.{Contains-at}
use Rattle.esto_run.proofs.RowsTextLemmas.{first_text}
use Rattle.esto_run.proofs.texts.union_rows_text.Goals as goal

pub answers_text-requires : goal.answers_text-requires
answers_text-requires c = c.requires.fit c.item.result.now (Contains-at c.args.queries.now 0 c.item.result.now c.item.ensures)

pub returns : goal.returns
returns c = IfOk-weaker c.answers_text.result _ _
    (λ text is. first_text c.args.queries.now c.args.rows.now c.item.result.now text c.item.ensures is) c.answers_text.ensures
