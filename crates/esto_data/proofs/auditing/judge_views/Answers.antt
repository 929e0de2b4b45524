use Rattle.esto_course.specs.Course.{judges}
use Rattle.esto_data.proofs.StepLemmas.{view_stops}
use Rattle.esto_data.proofs.auditing.judge_views.Goals as goal

pub returns-in-Ok-clause-views : goal.returns-in-Ok-clause-views
unfolding judges
returns-in-Ok-clause-views c loaded stands = c.in-Ok.ensures.views loaded stands

pub returns-in-Ok-clause-stays : goal.returns-in-Ok-clause-stays
returns-in-Ok-clause-stays c = record { kept = c.in-Ok.ensures.kept; grown = c.in-Ok.ensures.grown }

pub returns-in-Err-NodeInRow-clause-views : goal.returns-in-Err-NodeInRow-clause-views
returns-in-Err-NodeInRow-clause-views c loaded stands =
    let first = rw c.in-Err-NodeInRow.field-0-is at (c.in-Err-NodeInRow.ensures.views loaded stands) in
    view_stops c.args.catalogue.now loaded.facts c.in-Err-NodeInRow.column first
