use Rattle.esto_catalog.proofs.RowLemmas.{judges_goes, judges_stops}
use Rattle.esto_catalog.proofs.WalkLemmas.{view_over, view_fault_over}
use Rattle.esto_catalog.proofs.fragment.view_of_text.Goals as goal

pub returns-in-Ok-clause-view : goal.returns-in-Ok-clause-view
returns-in-Ok-clause-view c = judges_goes _ _ c.in-Ok.view (view_over c.args.scope.now c.requires c.args.text.now c.in-Ok.view
    (rw c.bytes.ensures.value at c.in-Ok.ensures.reading))

pub returns-in-Err-Fault-clause-view : goal.returns-in-Err-Fault-clause-view
returns-in-Err-Fault-clause-view c =
    judges_stops _ _ _ _ (λ other same. (
      c.in-Err-Fault.found,
      view_fault_over c.args.scope.now c.requires c.args.text.now c.in-Err-Fault.found
          (rw (c.in-Err-Fault.field-0-is, c.bytes.ensures.value) at c.in-Err-Fault.ensures.error),
      same,
    )) c.fault.ensures
