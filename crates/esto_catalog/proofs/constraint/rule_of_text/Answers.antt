use Rattle.esto_catalog.proofs.RowLemmas.{judges_goes, judges_stops}
use Rattle.esto_catalog.proofs.WalkLemmas.{rule_over, rule_fault_over}
use Rattle.esto_catalog.proofs.constraint.rule_of_text.Goals as goal

pub returns-in-Ok-clause-rule : goal.returns-in-Ok-clause-rule
returns-in-Ok-clause-rule c =
    judges_goes _ _ c.in-Ok.rule
    (rule_over c.args.scope.now c.requires c.args.text.now c.args.version c.in-Ok.rule (rw c.bytes.ensures.value at c.in-Ok.ensures.rule))

pub returns-in-Err-Fault-clause-rule : goal.returns-in-Err-Fault-clause-rule
returns-in-Err-Fault-clause-rule c =
    judges_stops _ _ _ _ (λ other same. (
      c.in-Err-Fault.found,
      rule_fault_over c.args.scope.now c.requires c.args.text.now c.args.version c.in-Err-Fault.found
          (rw (c.in-Err-Fault.field-0-is, c.bytes.ensures.value) at c.in-Err-Fault.ensures.error),
      same,
    )) c.fault.ensures
