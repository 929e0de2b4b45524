use Rattle.std.proofs.Common.{◌++◌, eqb, get_or, ap, ◌∙◌}
use Rattle.std.proofs.lemmas.Result.{IfOk-weaker}
use Rattle.esto_columns.specs.Picked.{places_of}
use Rattle.esto_columns.proofs.StoredLemmas.{found_within, found_all, holds_one}
use Rattle.esto_columns.proofs.stored.picked.Goals as goal

pub held_among-requires-clause-places : goal.held_among-requires-clause-places
held_among-requires-clause-places c =
    found_within (λ held. eqb held c.args.first.now.code)
    (λ row. get_or row c.args.first.now.column 0) c.args.rows.now.rows c.args.inputs.now c.column.result.now c.items.result.now c.column.ensures
    (c.items.ensures ∙ c.select.ensures.items
    ∙ ap (λ them. them ++ places_of 0 c.args.first.now.code c.column.result.now) (c.in_ok-reserve.ensures.items ∙ c.new-picks.ensures))

pub returns : goal.returns
returns c = IfOk-weaker c.held_among.result _ _
    (λ it. found_all (λ held. eqb held c.args.first.now.code)
    (λ row. get_or row c.args.first.now.column 0) c.args.rows.now.rows c.args.inputs.now c.column.result.now c.items.result.now c.column.ensures
    (c.items.ensures ∙ c.select.ensures.items
    ∙ ap (λ them. them ++ places_of 0 c.args.first.now.code c.column.result.now) (c.in_ok-reserve.ensures.items ∙ c.new-picks.ensures))
    (λ row holds. holds_one c.args.inputs.now row c.args.first.now c.requires.first holds) c.args.rows.now.arity it)
    c.held_among.ensures
