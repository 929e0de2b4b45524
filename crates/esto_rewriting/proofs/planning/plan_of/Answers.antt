use Rattle.std.proofs.Common.{refl}
use Rattle.esto_course.specs.Course.{judges}
use Rattle.esto_course.specs.Course.Stops.{refused}
use Rattle.esto_rewriting.proofs.planning.plan_of.Goals as goal

pub returns-in-Left-clause-course : goal.returns-in-Left-clause-course
unfolding judges
returns-in-Left-clause-course c = rw c.in-Left.is at c.in_ok-plan.ensures.run

pub returns-in-Right-clause-course : goal.returns-in-Right-clause-course
unfolding judges
returns-in-Right-clause-course c =
    let clashes = rw c.in-Right.is at c.in_ok-plan.ensures.run in
    refused (record { cause = tt }) (c.in-Right.clash, clashes, refl)
