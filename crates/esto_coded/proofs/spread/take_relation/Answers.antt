use Rattle.std.proofs.Common.{get_or, sym, subst}
use Rattle.std.proofs.lemmas.Option.{slice_get-get_or}
use Rattle.std.proofs.lemmas.Result.{on_ok_weaker}
use Rattle.esto_coded.specs.Spread.{TakesPassing}
use Rattle.esto_coded.proofs.AnswerLemmas.{rows_at}
use Rattle.esto_coded.proofs.spread.take_relation.Goals as goal

pub returns : goal.returns
returns c =
    let relation = get_or c.args.relations.now c.args.number c.index-relations-number.result in
    on_ok_weaker c.take_rows.result
    (subst (λ rows. TakesPassing c.args.columns.now rows c.args.set.now c.take_rows.new.set)
    (sym (rows_at c.args.relations.now c.args.number relation
    (slice_get-get_or c.args.relations.now c.args.number c.index-relations-number.result c.requires))))
    c.take_rows.ensures
