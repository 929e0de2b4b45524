use Rattle.std.proofs.Common.{ap, ◌∙◌}
use Rattle.std.proofs.lemmas.Result.{IfOk-weaker}
use Rattle.esto_stores.specs.TableText.{table_text}
use Rattle.esto_run.proofs.answers.answers_text.Goals as goal

pub returns : goal.returns
returns c = IfOk-weaker c.write_records.result _ _
    (λ text is. is ∙ ap (λ names. table_text names c.args.rows.now) c.in_ok-names.ensures) c.write_records.ensures
