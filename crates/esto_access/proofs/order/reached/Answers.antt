use Rattle.std.proofs.Common.{sym, ◌∙◌}
use Rattle.std.proofs.lemmas.List.{length-map}
use Rattle.esto_views.specs.Fragments.{patterns_of}
use Rattle.esto_views.specs.Plans.{fact_of, plan_query}
use Rattle.esto_access.proofs.RunLemmas.{numbers_below, part_of_run}
use Rattle.esto_term.proofs.ResultLemmas.{if_ok_both}
use Rattle.esto_access.proofs.order.reached.Goals as goal

pub of-requires : goal.of-requires
of-requires c =
    numbers_below (patterns_of c.args.fragments.now) (plan_query c.args.plan.now).body c.args.set.now _ c.items.result.now c.items.ensures
    c.in_ok-order.ensures.stuck c.in_ok-order.ensures.run
    c.len.result (c.len.ensures ∙ sym (length-map c.args.plan.now.atoms fact_of))

pub returns : goal.returns
returns c = if_ok_both c.of.result
    (λ part count has.
    part_of_run (patterns_of c.args.fragments.now) (plan_query c.args.plan.now).body c.args.set.now _ c.items.result.now c.items.ensures
    c.in_ok-order.ensures.stuck c.in_ok-order.ensures.run
    part (count ∙ c.len.ensures ∙ sym (length-map c.args.plan.now.atoms fact_of)) has) c.of.ensures.count c.of.ensures.has
