use Rattle.esto_top.proofs.VerifiedLemmas.{verify_checks}
use Rattle.esto_top.proofs.certificate_laws.verify_checks_certificates.Goals as goal

pub returns : goal.returns
returns c =
    verify_checks c.openings_are_one.ensures.catalogues c.openings_are_one.ensures.queries
    (record {
      plan_one = c.plans_and_lists_are_one.ensures.plan;
      plan_moved = c.plans_and_lists_are_moved.ensures.plan;
      clash_moved = c.plans_and_lists_are_moved.ensures.clash;
      moved = c.verdicts_are_moved.ensures;
      show = c.accepted_certificates_show.ensures;
      derive = c.accepted_certificates_derive.ensures;
    })
