use Rattle.std.proofs.Common.{◌≡◌, Some, true, slice_get}
use Rattle.esto_term.proofs.ListLemmas.{HoldsBelow}
use Rattle.esto_steps.specs.Planned.{IsKnown}
use Rattle.esto_plan.proofs.planning.can_meet.Given as goal

abbrev pub invariant-columns : goal.invariant-columns
invariant-columns l = HoldsBelow (λ column term. slice_get l.access column ≡ Some true → IsKnown l.bound term) l.terms l.column
