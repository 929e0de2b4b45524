use Rattle.std.proofs.Common.{sym, ◌∙◌}
use Rattle.std.proofs.lemmas.Bool.{false≢true}
use Rattle.std.proofs.lemmas.List.{length-map}
use Rattle.esto_views.specs.Fragments.{patterns_of}
use Rattle.esto_views.specs.Plans.{fact_of, plan_query}
use Rattle.esto_access.proofs.RunLemmas.{executable_is_named, order_of_run}
use Rattle.esto_access.proofs.order.order_of.Goals as goal

pub returns-else-names_all : goal.returns-else-names_all
returns-else-names_all c = λ executable.
    false≢true (sym c.if-names_all.false ∙ c.names_all.ensures.1
    (executable_is_named (patterns_of c.args.fragments.now) (plan_query c.args.plan.now).body c.args.set.now _ c.items.result.now c.items.ensures
    c.in_ok-order.ensures.stuck c.in_ok-order.ensures.run executable))

pub returns-then-names_all : goal.returns-then-names_all
returns-then-names_all c =
    order_of_run (patterns_of c.args.fragments.now) (plan_query c.args.plan.now).body c.args.set.now _ c.items.result.now c.items.ensures
    c.in_ok-order.ensures.stuck c.in_ok-order.ensures.run
    (sym c.count.ensures ∙ c.if-count-len.false ∙ c.len.ensures ∙ sym (length-map c.args.plan.now.atoms fact_of))
    (c.names_all.ensures.0 c.if-names_all.true)

pub returns-then-count-len : goal.returns-then-count-len
returns-then-count-len c = λ (order, is_order).
    c.if-count-len.true (c.count.ensures ∙ is_order.over ∙ length-map c.args.plan.now.atoms fact_of ∙ sym c.len.ensures)
