use Rattle.esto_constraint.specs.Constraints.{rules_of}
use Rattle.esto_course.specs.Course.{judges}
use Rattle.esto_query.specs.Making.{query_of}
use Rattle.esto_reasoning.proofs.ShownLemmas.{row_is_full}
use Rattle.esto_reasoning.proofs.containing.tell.Goals as goal

pub returns-clause-course : goal.returns-clause-course
unfolding judges
returns-clause-course c = c.in_ok-told.ensures.tells

pub returns-clause-row : goal.returns-clause-row
returns-clause-row c =
    row_is_full (rules_of c.args.catalogue.now.rules) (query_of c.args.left.now) (query_of c.args.right.now) c.in_ok-told.told
    (c.queries_are_sound.ensures c.args.left.now).query.has_head c.in_ok-told.ensures.shown
