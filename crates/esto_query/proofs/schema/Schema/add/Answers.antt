use Rattle.esto_query.proofs.SchemaLemmas.{IsSchema-push}
use Rattle.esto_query.proofs.schema.Schema.add.Goals as goal

pub invariant_of-self-2 : goal.invariant_of-self-2
invariant_of-self-2 c =
    let fits = rw (c.bytes.ensures.value, ← c.self.view_is) at c.in_default.ensures in
    IsSchema-push _ _ _ c.in_ok-push.ensures.ok c.self.invariant fits.0 fits.1 fits.2
