use Rattle.std.proofs.Common.{[], ◌∷◌, ◌++◌, get_or, sym, ap, ◌∙◌}
use Rattle.std.proofs.lemmas.List.{map_more, take_all}
use Rattle.esto_columns.specs.Indexed.{key_at}
use Rattle.esto_columns.proofs.rows.read_key.Goals as goal

pub columns-init : goal.columns-init
columns-init c = c.truncate.ensures

pub columns-preserved : goal.columns-preserved
columns-preserved c = c.in_ok-push.ensures.ok ∙ (λ i. c.columns.invariant i ++ c.code_at.ensures i ∷ [])
    ∙ sym (map_more (λ column. get_or c.args.row.now column 0) c.args.columns.now c.columns.column-index 0 c.columns-test.true)

pub returns : goal.returns
returns c = c.columns.invariant
    ∙ ap (λ them. key_at them c.args.row.now) (take_all c.columns.column-index c.args.columns.now c.columns-test.false)
