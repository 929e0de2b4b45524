use Rattle.std.proofs.Common.{◌<◌, [], length, get_or, ap, sym, subst, ◌∙◌}
use Rattle.std.proofs.lemmas.List.{get_or-map, length-map}
use Rattle.std.proofs.lemmas.Result.{IfOk-weaker}
use Rattle.esto_rows.specs.Lent.{lent_row, lent_rows}
use Rattle.esto_stores.specs.TableText.{table_text}
use Rattle.esto_run.specs.Answers.{level_name}
use Rattle.esto_term.specs.declared.term.Term.{out-Term}
use Rattle.esto_run.proofs.answers.lent_answers_text.Goals as goal

pub write_lent_records-requires : goal.write_lent_records-requires
write_lent_records-requires c = λ place default below.
    let rows = c.args.rows.now in
    let head = c.args.query.now.head in
    sym (length-map (get_or rows place default).now (λ text. text.now)) ∙ ap length (sym (get_or-map lent_row rows place default [] below))
    ∙ c.requires place [] (subst (λ n. place < n) (sym (length-map rows lent_row)) below)
    ∙ sym (ap length c.in_ok-names.ensures ∙ length-map head (λ term. level_name c.args.query.now.names (out-Term term)))

pub returns : goal.returns
returns c = IfOk-weaker c.write_lent_records.result _ _
    (λ text is. is ∙ ap (λ names. table_text names (lent_rows c.args.rows.now)) c.in_ok-names.ensures) c.write_lent_records.ensures
