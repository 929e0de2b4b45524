use Rattle.esto_course.proofs.Steps.{first_stops, then_stops}
use Rattle.esto_catalog.proofs.RowLemmas.{row_exit, then_walks}
use Rattle.esto_catalog.specs.Constraints.{reads_constraint}
use Rattle.esto_catalog.proofs.constraint.read_entry.Goals as goal

pub returns-in_err-knows_keys-clause-rule : goal.returns-in_err-knows_keys-clause-rule
returns-in_err-knows_keys-clause-rule c =
    row_exit (reads_constraint c.args.version c.args.place c.args.scope.now.datasets c.args.entry.now) _ _ c.from_residual.ensures.1
    (first_stops _ _ c.in_err-knows_keys.ensures)

pub returns-in_err-text-clause-rule : goal.returns-in_err-text-clause-rule
returns-in_err-text-clause-rule c =
    row_exit (reads_constraint c.args.version c.args.place c.args.scope.now.datasets c.args.entry.now) _ _ c.from_residual-in_err-text.ensures.1
    (then_stops _ _ _ c.in_ok-knows_keys.ensures (first_stops _ _ c.in_err-text.ensures.error))

pub returns-clause-rule : goal.returns-clause-rule
returns-clause-rule c =
    then_walks _ _ _ _ c.in_ok-knows_keys.ensures (then_walks _ _ _ _ c.in_ok-text.ensures.goes c.rule_of_text.ensures.rule)
