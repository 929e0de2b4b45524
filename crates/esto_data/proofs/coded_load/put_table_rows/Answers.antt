use Rattle.std.proofs.Common.{◌∙◌, Some, ap, refl, slice_get, sym}
use Rattle.esto_stores.specs.Table.{table_rows}
use Rattle.esto_data.proofs.CodedLoadLemmas.{coded_put, table_place}
use Rattle.esto_data.proofs.coded_load.put_table_rows.Goals as goal

pub put_coded-requires : goal.put_coded-requires
put_coded-requires c =
    ap (λ those. slice_get those c.args.dataset.now.base) c.code_table.ensures.arities
    ∙ table_place c.args.dataset.now c.args.coded.now c.requires.relations c.requires.model ∙ ap Some (sym c.in_ok-rows.ensures.rows.1)

pub returns : goal.returns
returns c = (
  c.in_ok-rows.ensures.rows.0,
  coded_put c.args.dataset.now.base (table_rows c.args.dataset.now.columns c.args.bytes.now) c.in_ok-rows.rows.rows c.args.coded.now
      c.code_table.new.self c.put_coded.new.self c.code_table.ensures.ordered c.code_table.ensures.arities c.in_ok-rows.ensures.rows.2
      c.in_ok-put_coded.ensures.ordered c.in_ok-put_coded.ensures.arities,
  refl,
)
