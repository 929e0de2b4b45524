use Rattle.std.proofs.Common.{Err, Ok}
use Rattle.esto_course.proofs.Asking.{quiet_judges}
use Rattle.esto_course.proofs.Steps.{at_exit}
use Rattle.esto_status.proofs.AskedSteps.{exit_asks, handed_asks, later_asks, quiet_asks}
use Rattle.esto_status.proofs.Steps.{still_stops}
use Rattle.esto_data.specs.Fill.{finds_fragment}
use Rattle.esto_status.proofs.Steps.{next_answers}
use Rattle.esto_data.proofs.FindLemmas.{found_within}
use Rattle.esto_data.proofs.filling.fill_named.Goals as goal

pub fill_fragment-requires : goal.fill_fragment-requires
fill_fragment-requires g c = found_within c.args.catalogue.now c.args.name.now c.in_ok-number.number c.in_ok-number.ensures

pub returns-in_err-number-clause-answer : goal.returns-in_err-number-clause-answer
returns-in_err-number-clause-answer g c = at_exit _ _ c.from_residual.result c.from_residual.ensures.1 (still_stops _ _ c.in_err-number.ensures)

pub returns-in_err-number-clause-asked : goal.returns-in_err-number-clause-asked
returns-in_err-number-clause-asked g c =
    handed_asks _ _ _ c.from_residual.ensures.1
    (exit_asks _ _ (quiet_asks (finds_fragment c.args.catalogue.now c.args.name.now) _ (Err _) (quiet_judges _ _) c.in_err-number.ensures))

pub returns-clause-answer : goal.returns-clause-answer
returns-clause-answer g c = next_answers _ _ _ c.in_ok-number.number c.fill_fragment.result c.in_ok-number.ensures c.fill_fragment.ensures.answer

pub returns-clause-asked : goal.returns-clause-asked
returns-clause-asked g c =
    later_asks _ _ (quiet_asks (finds_fragment c.args.catalogue.now c.args.name.now) _ (Ok c.in_ok-number.number) (quiet_judges _ _) c.in_ok-number.ensures)
    c.fill_fragment.ensures.asked
