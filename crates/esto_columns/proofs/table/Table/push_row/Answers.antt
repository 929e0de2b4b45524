use Rattle.std.proofs.Common.{◌++◌, ◌∷◌, [], refl, sym, ap, ◌∙◌}
use Rattle.std.proofs.lemmas.List.{append-nil, append_assoc}
use Rattle.esto_columns.proofs.RowLemmas.{column_long, row_turn, row_ends}
use Rattle.esto_columns.proofs.table.Table.push_row.Goals as goal

pub columns-init : goal.columns-init
columns-init c = ([], refl, sym (append-nil c.args.into.now))

pub item-requires : goal.item-requires
item-requires c =
    column_long c.self.inside.count c.self.inside.columns.items c.as_slice-column-items.result.now c.args.self.now c.self.view_is c.self.invariant
    c.as_slice-column-items.ensures.value
    c.columns.column-index c.column-item.result c.columns-test.true c.column-item.is c.args.at c.requires

pub columns-preserved : goal.columns-preserved
columns-preserved c =
    let row = c.columns.invariant.0 in (
      row ++ c.item.result ∷ [],
      row_turn c.args.at c.as_slice-column-items.result.now c.columns.column-index c.column-item.result row (row ++ c.item.result ∷ []) c.item.result
          c.columns-test.true c.column-item.is c.columns.invariant.1 c.item.ensures refl,
      c.in_ok-push.ensures.ok ∙ ap (λ them. them ++ c.item.result ∷ []) c.columns.invariant.2 ∙ append_assoc c.args.into.now row (c.item.result ∷ []),
    )

pub returns : goal.returns
returns c = (
  c.columns.invariant.0,
  row_ends c.self.inside.count c.self.inside.columns.items c.as_slice-column-items.result.now c.args.self.now c.self.view_is
      c.as_slice-column-items.ensures.value c.args.at c.requires
      c.columns.column-index c.columns.invariant.0 c.columns-test.false c.columns.invariant.1,
  c.columns.invariant.2,
)
