use Rattle.esto_catalog.proofs.SchemaLemmas.{fits_arity, is_new}
use Rattle.esto_catalog.proofs.scope.add.Goals as goal

pub unreachable-requires : goal.unreachable-requires
unreachable-requires c = is_new _ _ c.requires (rw c.in-Err-SameName.field-0-is at c.in-Err-SameName.ensures.outcome)

pub unreachable-requires-in-Err-BadArity : goal.unreachable-requires-in-Err-BadArity
unreachable-requires-in-Err-BadArity c =
    (rw c.in-Err-BadArity.field-0-is at c.in-Err-BadArity.ensures.outcome).1 (fits_arity _ _ c.requires)
