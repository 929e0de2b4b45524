use Rattle.std.proofs.lemmas.Result.{IfErr-weaker}
use Rattle.esto_course.specs.Course.{Stops}
use Rattle.esto_course.specs.Course.Stops.{is_free}
use Rattle.esto_status.specs.Answers.{IsCaused, IsWant}
use Rattle.esto_rewriting.specs.Run.{chooses_each}
use Rattle.esto_rewriting.proofs.PickingLemmas.{choice_refused, handed_holds}
use Rattle.esto_rewriting.proofs.picking.pick_each.Goals as goal

pub returns-in_err-judge_choice-clause-refusal : goal.returns-in_err-judge_choice-clause-refusal
returns-in_err-judge_choice-clause-refusal c =
    handed_holds (Stops IsWant (IsCaused ⊥) (chooses_each c.args.members.now c.args.number)) _ c.from_residual.result c.from_residual.ensures.1
    (choice_refused c.args.members.now c.args.number _ c.in_err-judge_choice.ensures.refusal)

pub returns-clause-refusal : goal.returns-clause-refusal
returns-clause-refusal c =
    IfErr-weaker c.picks_of.result IsWant (Stops IsWant (IsCaused ⊥) (chooses_each c.args.members.now c.args.number)) (λ status want. is_free want)
    c.picks_of.ensures.want
