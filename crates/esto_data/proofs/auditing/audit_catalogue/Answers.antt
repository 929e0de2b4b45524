use Rattle.std.proofs.Common.{refl}
use Rattle.esto_course.specs.Course.Stops.{is_free}
use Rattle.esto_course.proofs.Steps.{at_exit}
use Rattle.esto_status.proofs.AskedSteps.{exit_asks, handed_asks, wanted}
use Rattle.esto_data.specs.Audit.{audits_facts}
use Rattle.esto_data.specs.Datasets.{AreNeeded, IsAny, loads}
use Rattle.esto_data.proofs.auditing.audit_catalogue.Goals as goal

pub returns-in_err-trial-clause-answer : goal.returns-in_err-trial-clause-answer
returns-in_err-trial-clause-answer g c = at_exit _ _ c.from_residual.result c.from_residual.ensures.1 (is_free refl)

pub returns-in_err-trial-clause-asked : goal.returns-in_err-trial-clause-asked
returns-in_err-trial-clause-asked g c =
    let files = g.S.Shelf.files c.args.shelf.now in
    let catalogue = c.args.catalogue.now in
    handed_asks _ _ c.from_residual.result c.from_residual.ensures.1
    (exit_asks (loads files catalogue.datasets IsAny) (audits_facts files catalogue)
    (wanted (g.S.Shelf.asked c.args.shelf.now) (AreNeeded catalogue.datasets IsAny) (λ _. ⊥) _))
