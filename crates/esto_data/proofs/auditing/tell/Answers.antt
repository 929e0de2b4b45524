use Rattle.std.proofs.Common.{ap, refl}
use Rattle.esto_course.specs.Course.Stops.{is_free}
use Rattle.esto_course.proofs.Steps.{at_exit, first_stops, gives_goes, then_goes}
use Rattle.esto_status.specs.declared.reply.Reply.TheVariants.{Done}
use Rattle.esto_data.proofs.auditing.tell.Goals as goal

pub returns-in_err-compare : goal.returns-in_err-compare
returns-in_err-compare c facts holds contents held =
    at_exit _ _ c.from_residual.result c.from_residual.ensures.1 (first_stops _ _ (c.in_err-compare.ensures facts holds contents held))

pub returns-in_err-text : goal.returns-in_err-text
returns-in_err-text c facts holds contents held =
    at_exit _ _ c.from_residual-in_err-text.result c.from_residual-in_err-text.ensures.1 (is_free refl)

pub returns : goal.returns
returns c facts holds contents held =
    then_goes _ _ tt _ (c.in_ok-compare.ensures facts holds contents held) (gives_goes _ _ _ (ap Done c.in_ok-text.ensures))
