use Rattle.std.proofs.Common.{Err, Ok}
use Rattle.esto_course.proofs.Asking.{quiet_judges}
use Rattle.esto_course.proofs.Steps.{at_exit}
use Rattle.esto_data.specs.Audit.{audits_rows, judges_views}
use Rattle.esto_status.proofs.AskedSteps.{exit_asks, handed_asks, later_asks, quiet_asks}
use Rattle.esto_status.proofs.Steps.{next_answers, still_stops}
use Rattle.esto_data.proofs.CodedLemmas.{audit_judged, facts_judged}
use Rattle.esto_data.proofs.auditing.audit_facts.Goals as goal

pub judge_views-requires : goal.judge_views-requires
judge_views-requires g c = let left = c.requires.facts.1.left in (left.loaded, left.stand)

pub returns-in_err-judge_views-clause-answer : goal.returns-in_err-judge_views-clause-answer
returns-in_err-judge_views-clause-answer g c facts holds =
    at_exit _ _ c.from_residual.result c.from_residual.ensures.1
    (still_stops (judges_views c.args.catalogue.now facts) (λ _. audits_rows (g.S.Shelf.files c.args.shelf.now) c.args.catalogue.now facts)
    (facts_judged c.args.catalogue.now c.args.trial.now c.requires.trial facts c.args.files.now c.args.coded holds (Err _) c.in_err-judge_views.ensures.views))

pub returns-in_err-judge_views-clause-asked : goal.returns-in_err-judge_views-clause-asked
returns-in_err-judge_views-clause-asked g c facts holds =
    handed_asks _ _ c.from_residual.result c.from_residual.ensures.1
    (exit_asks (judges_views c.args.catalogue.now facts) (λ _. audits_rows (g.S.Shelf.files c.args.shelf.now) c.args.catalogue.now facts)
    (quiet_asks (judges_views c.args.catalogue.now facts) _ (Err _) (quiet_judges _ _)
    (facts_judged c.args.catalogue.now c.args.trial.now c.requires.trial facts c.args.files.now c.args.coded holds (Err _)
    c.in_err-judge_views.ensures.views)))

pub audit_rows-requires-clause-facts : goal.audit_rows-requires-clause-facts
audit_rows-requires-clause-facts g c = (
  c.requires.facts.0,
  audit_judged c.args.catalogue.now c.args.trial.now c.requires.trial c.requires.facts.0 c.args.files.now c.args.coded c.requires.facts.1
      c.judge_views.new.coded c.in_ok-judge_views.ensures.stays
      (facts_judged c.args.catalogue.now c.args.trial.now c.requires.trial c.requires.facts.0 c.args.files.now c.args.coded c.requires.facts.1 (Ok tt)
      c.in_ok-judge_views.ensures.views),
)

pub returns-clause-answer : goal.returns-clause-answer
returns-clause-answer g c facts holds =
    let judged =
    facts_judged c.args.catalogue.now c.args.trial.now c.requires.trial facts c.args.files.now c.args.coded holds (Ok tt) c.in_ok-judge_views.ensures.views in
    next_answers (judges_views c.args.catalogue.now facts) (λ _. audits_rows (g.S.Shelf.files c.args.shelf.now) c.args.catalogue.now facts) _ tt
    c.audit_rows.result judged
    (c.audit_rows.ensures.answer facts
    (audit_judged c.args.catalogue.now c.args.trial.now c.requires.trial facts c.args.files.now c.args.coded holds
    c.judge_views.new.coded c.in_ok-judge_views.ensures.stays judged))

pub returns-clause-asked : goal.returns-clause-asked
returns-clause-asked g c facts holds =
    let judged =
    facts_judged c.args.catalogue.now c.args.trial.now c.requires.trial facts c.args.files.now c.args.coded holds (Ok tt) c.in_ok-judge_views.ensures.views in
    later_asks (judges_views c.args.catalogue.now facts) (λ _. audits_rows (g.S.Shelf.files c.args.shelf.now) c.args.catalogue.now facts)
    (quiet_asks (judges_views c.args.catalogue.now facts) _ (Ok tt) (quiet_judges _ _) judged)
    (c.audit_rows.ensures.asked facts
    (audit_judged c.args.catalogue.now c.args.trial.now c.requires.trial facts c.args.files.now c.args.coded holds
    c.judge_views.new.coded c.in_ok-judge_views.ensures.stays judged))
