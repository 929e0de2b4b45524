use Rattle.esto_catalog.proofs.SchemaLemmas.{schema_more_step, schema_turn}
use Rattle.esto_catalog.proofs.scope.schema_of.Goals as goal

pub add_relations-requires : goal.add_relations-requires
add_relations-requires c =
    schema_turn c.args.datasets.now c.datasets.dataset-index c.dataset-item.result c.datasets.schema c.requires c.datasets-test.true c.dataset-item.is
    c.datasets.invariant

pub datasets-preserved : goal.datasets-preserved
datasets-preserved c =
    schema_more_step c.args.datasets.now c.datasets.dataset-index c.dataset-item.result c.datasets.schema _ c.datasets-test.true c.dataset-item.is
    c.datasets.invariant c.in_ok-add_relations.ensures
