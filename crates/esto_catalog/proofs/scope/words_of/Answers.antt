use Rattle.esto_catalog.proofs.SchemaLemmas.{word_turn}
use Rattle.esto_catalog.proofs.scope.words_of.Goals as goal

pub datasets-preserved : goal.datasets-preserved
datasets-preserved c =
    word_turn c.args.datasets.now c.datasets.dataset-index c.dataset-item.result _ c.datasets.words _ c.datasets-test.true c.dataset-item.is
    c.in_ok-name.ensures c.datasets.invariant c.in_ok-push.ensures.ok
