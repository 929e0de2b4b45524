use Rattle.esto_catalog.proofs.SchemaLemmas.{root_fits, field_fits, item_fits, value_fits, below_fits}
use Rattle.esto_catalog.proofs.scope.add_documents.Goals as goal

pub add_part-requires : goal.add_part-requires
add_part-requires c = root_fits c.args.name.now c.args.schema.now c.requires

pub add_part-requires-2 : goal.add_part-requires-2
add_part-requires-2 c = field_fits c.args.name.now c.args.schema.now c.requires _ c.in_ok-add_part.ensures

pub add_part-requires-3 : goal.add_part-requires-3
add_part-requires-3 c = item_fits c.args.name.now c.args.schema.now c.requires _ c.in_ok-add_part.ensures _ c.in_ok-add_part-2.ensures

pub add_part-requires-4 : goal.add_part-requires-4
add_part-requires-4 c =
    value_fits c.args.name.now c.args.schema.now c.requires _ c.in_ok-add_part.ensures _ c.in_ok-add_part-2.ensures _ c.in_ok-add_part-3.ensures

pub add_part-requires-5 : goal.add_part-requires-5
add_part-requires-5 c =
    below_fits c.args.name.now c.args.schema.now c.requires _ c.in_ok-add_part.ensures _ c.in_ok-add_part-2.ensures _ c.in_ok-add_part-3.ensures _
    c.in_ok-add_part-4.ensures
