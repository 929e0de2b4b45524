use Rattle.esto_top.proofs.ExplainedLemmas.{explain_says}
use Rattle.esto_top.proofs.certificate_laws.explain_says_certificates.Goals as goal

pub returns : goal.returns
returns c =
    explain_says c.openings_are_one.ensures.catalogues c.openings_are_one.ensures.queries
    (record {
      plan_one = c.plans_and_lists_are_one.ensures.plan;
      plan_moved = c.plans_and_lists_are_moved.ensures.plan;
      clash_moved = c.plans_and_lists_are_moved.ensures.clash;
      list_moved = c.plans_and_lists_are_moved.ensures.list;
      item = c.chosen_items_are_listed.ensures.item;
      moved = c.verdicts_are_moved.ensures;
      show = c.accepted_certificates_show.ensures;
      derive = c.accepted_certificates_derive.ensures;
    })
