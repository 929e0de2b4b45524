use Rattle.esto_course.specs.Course.{judges}
use Rattle.esto_status.proofs.AskedSteps.{handed_asks}
use Rattle.esto_status.proofs.Steps.{next_answers}
use Rattle.esto_rewriting.specs.List.{makes_members}
use Rattle.esto_rewriting.specs.Run.{runs_members}
use Rattle.esto_rewriting.proofs.RunAskedLemmas.{union_asks, union_wants}
use Rattle.esto_rewriting.proofs.run.run_union.Goals as goal

pub returns-in_err-members-clause-asked : goal.returns-in_err-members-clause-asked
returns-in_err-members-clause-asked g c =
    handed_asks _ _ _ c.from_residual.ensures.1
    (union_wants (g.S.Shelf.files c.args.shelf.now) c.args.catalogue.now c.args.queries.now c.args.number (g.S.Shelf.asked c.args.shelf.now))

pub returns-clause-answer : goal.returns-clause-answer
unfolding judges
returns-clause-answer g c =
    next_answers (makes_members c.args.catalogue.now c.args.queries.now)
    (runs_members (g.S.Shelf.files c.args.shelf.now) c.args.catalogue.now c.args.queries.now c.args.number) _ c.in_ok-members.members c.run_members.result
    c.in_ok-members.ensures c.run_members.ensures.answer

pub returns-clause-asked : goal.returns-clause-asked
returns-clause-asked g c =
    union_asks (g.S.Shelf.files c.args.shelf.now) c.args.catalogue.now c.args.queries.now c.args.number c.in_ok-members.members c.in_ok-members.ensures _
    c.run_members.ensures.asked
