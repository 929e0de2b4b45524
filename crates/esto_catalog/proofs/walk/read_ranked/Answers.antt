use Rattle.esto_course.proofs.Steps.{first_stops}
use Rattle.esto_catalog.proofs.RowLemmas.{row_exit, then_walks}
use Rattle.esto_catalog.specs.Reading.{reads_ranked}
use Rattle.esto_catalog.proofs.walk.read_ranked.Goals as goal

pub returns-in_err-own-clause-rules : goal.returns-in_err-own-clause-rules
returns-in_err-own-clause-rules c =
    row_exit (reads_ranked c.args.sections.now c.args.scope.now.datasets) _ _ c.from_residual.ensures.1
    (first_stops _ _ (rw c.items-entries.ensures at c.in_err-own.ensures.rules))

pub returns-clause-rules : goal.returns-clause-rules
returns-clause-rules c =
    then_walks _ _ c.in_ok-own.own _ (rw c.items-entries.ensures at c.in_ok-own.ensures.rules)
    (c.rank_rules.ensures.course c.args.sections.now.version c.in_ok-own.own c.in_ok-rules.ensures.rules c.len-given.ensures)

pub returns-clause-over : goal.returns-clause-over
returns-clause-over c = c.rank_rules.ensures.over
