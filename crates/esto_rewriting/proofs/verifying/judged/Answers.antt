use Rattle.esto_rewriting.proofs.JudgeLemmas.{accepts, rejects}
use Rattle.esto_rewriting.proofs.verifying.judged.Goals as goal

pub check_certificate-requires-clause-over : goal.check_certificate-requires-clause-over
check_certificate-requires-clause-over c =
    c.planned_plans_have_their_form.ensures.over c.args.catalogue.now c.args.query.now c.args.plan.now c.requires.planned

pub check_certificate-requires-clause-same_length : goal.check_certificate-requires-clause-same_length
check_certificate-requires-clause-same_length c =
    (c.planned_plans_have_their_form.ensures.form c.args.catalogue.now c.args.query.now c.args.plan.now c.requires.planned).same_length

pub returns-in_ok-text-in-Ok : goal.returns-in_ok-text-in-Ok
returns-in_ok-text-in-Ok c =
    accepts c.args.catalogue.now c.args.query.now c.args.plan.now c.args.set.now c.args.bytes.now c.bytes.result.now c.bytes.ensures c.in-Ok.ensures.exact
    c.in_ok-text-in-Ok.text c.in_ok-text-in-Ok.ensures

pub returns-in-Err-Rejected : goal.returns-in-Err-Rejected
returns-in-Err-Rejected c =
    rejects c.args.catalogue.now c.args.query.now c.args.plan.now c.args.set.now c.args.bytes.now c.bytes.result.now c.bytes.ensures
    c.in-Err-Rejected.field-0 c.in-Err-Rejected.line _ c.in-Err-Rejected.field-0-is c.in-Err-Rejected.line-is c.in-Err-Rejected.ensures.exact
