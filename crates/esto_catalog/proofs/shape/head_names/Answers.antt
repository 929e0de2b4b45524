use Rattle.esto_catalog.proofs.ShapeLemmas.{name_turn}
use Rattle.esto_catalog.proofs.shape.head_names.Goals as goal

pub terms-preserved : goal.terms-preserved
terms-preserved c =
    name_turn c.args.view.now.names _ c.terms.term-index c.term-item.result _ c.terms-test.true c.term-item.is
    (rw c.items.ensures at c.in_ok-column.ensures) c.terms.names _ c.terms.invariant c.in_ok-push.ensures.ok
