use Rattle.std.proofs.Common.{◌++◌, map, get_or, sym, ap, ◌∙◌}
use Rattle.std.proofs.lemmas.Option.{slice_get-get_or}
use Rattle.std.proofs.lemmas.Result.{on_ok_weaker}
use Rattle.esto_columns.specs.declared.stored.StoredRows.{StoredRows}
use Rattle.esto_coded.specs.Coded.{rows_in}
use Rattle.esto_coded.specs.Parted.{kept_facts}
use Rattle.esto_coded.proofs.AnswerLemmas.{rows_at}
use Rattle.esto_coded.proofs.PartLemmas.{asked_none, asked_some}
use Rattle.esto_coded.proofs.parted.put_asked.Goals as goal

pub returns-then-not-is_asked : goal.returns-then-not-is_asked
returns-then-not-is_asked c = asked_none c.args.codes.now c.args.atoms.now c.args.set.now c.args.number
    (rows_in (map (λ (stored : StoredRows). stored.rows) c.args.relations.now) c.args.number) c.args.facts.now
    (sym c.is_asked.ensures ∙ c.if-not-is_asked.true)

pub returns : goal.returns
returns c =
    let relation = get_or c.args.relations.now c.args.number c.index-relations-number.result in
    on_ok_weaker c.put_rows.result
    (λ is. is
    ∙ ap (λ rows. c.args.facts.now ++ kept_facts c.args.codes.now c.args.set.now c.args.number rows)
    (sym (rows_at c.args.relations.now c.args.number relation
    (slice_get-get_or c.args.relations.now c.args.number c.index-relations-number.result c.requires)))
    ∙ asked_some c.args.codes.now c.args.atoms.now c.args.set.now c.args.number
    (rows_in (map (λ (stored : StoredRows). stored.rows) c.args.relations.now) c.args.number) c.args.facts.now
    (sym c.is_asked.ensures ∙ c.if-not-is_asked.false))
    c.put_rows.ensures
