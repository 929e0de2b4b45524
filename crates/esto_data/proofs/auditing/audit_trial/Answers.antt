use Rattle.std.proofs.Common.{refl}
use Rattle.esto_course.specs.Course.Stops.{is_free}
use Rattle.esto_course.proofs.Steps.{at_exit, first_stops}
use Rattle.esto_status.proofs.AskedSteps.{exit_asks, handed_asks, later_asks}
use Rattle.esto_status.proofs.Steps.{then_answers}
use Rattle.esto_data.specs.Audit.{audits_facts}
use Rattle.esto_data.specs.Datasets.{IsAny, loads}
use Rattle.esto_data.proofs.DatasetLemmas.{loads_want}
use Rattle.esto_data.proofs.auditing.audit_trial.Goals as goal

pub returns-in_err-coded-clause-answer : goal.returns-in_err-coded-clause-answer
returns-in_err-coded-clause-answer g c = at_exit _ _ c.from_residual.result c.from_residual.ensures.1 (is_free refl)

pub returns-in_err-coded-clause-asked : goal.returns-in_err-coded-clause-asked
returns-in_err-coded-clause-asked g c =
    let files = g.S.Shelf.files c.args.shelf.now in
    let catalogue = c.args.catalogue.now in
    handed_asks _ _ c.from_residual.result c.from_residual.ensures.1
    (exit_asks (loads files catalogue.datasets IsAny) (audits_facts files catalogue)
    (loads_want files catalogue.datasets IsAny (g.S.Shelf.asked c.args.shelf.now)))

pub load_all-requires-clause-nothing : goal.load_all-requires-clause-nothing
load_all-requires-clause-nothing g c = c.in_ok-coded.ensures.nothing c.args.trial.now.wanted

pub returns-in_err-files-clause-answer : goal.returns-in_err-files-clause-answer
returns-in_err-files-clause-answer g c =
    at_exit _ _ c.from_residual-in_err-files.result c.from_residual-in_err-files.ensures.1 (first_stops _ _ c.in_err-files.ensures.answer)

pub returns-in_err-files-clause-asked : goal.returns-in_err-files-clause-asked
returns-in_err-files-clause-asked g c =
    handed_asks _ _ c.from_residual-in_err-files.result c.from_residual-in_err-files.ensures.1 (exit_asks _ _ c.in_err-files.ensures.asked)

pub audit_facts-requires-clause-facts : goal.audit_facts-requires-clause-facts
audit_facts-requires-clause-facts g c = let (facts, goes, holds) = c.in_ok-files.ensures.answer in (facts, holds)

pub returns-clause-answer : goal.returns-clause-answer
returns-clause-answer g c =
    let (facts, goes, holds) = c.in_ok-files.ensures.answer in
    let answer = rw c.in_ok-files.ensures.files at (c.audit_facts.ensures.answer facts holds) in
    then_answers _ _ _ _ _ facts c.audit_facts.result goes c.in_ok-files.ensures.later c.audit_facts.ensures.later answer

pub returns-clause-asked : goal.returns-clause-asked
returns-clause-asked g c =
    let (facts, asked, holds) = c.in_ok-files.ensures.asked in
    let asks = rw c.in_ok-files.ensures.files at (c.audit_facts.ensures.asked facts holds) in
    later_asks _ _ asked asks
