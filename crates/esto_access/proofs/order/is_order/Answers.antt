use Rattle.std.proofs.Common.{Contains, sym, subst, ◌∙◌}
use Rattle.std.proofs.lemmas.Bool.{false≢true}
use Rattle.std.proofs.lemmas.List.{length-map}
use Rattle.esto_views.specs.Fragments.{patterns_of}
use Rattle.esto_views.specs.Plans.{fact_of, plan_query}
use Rattle.esto_access.proofs.RunLemmas.{order_by_places}
use Rattle.esto_access.proofs.order.is_order.Goals as goal

pub returns-then-names_all : goal.returns-then-names_all
returns-then-names_all c =
    order_by_places (patterns_of c.args.fragments.now) (plan_query c.args.plan.now).body c.args.set.now c.args.order.now c.items.result.now
    c.items-then-names_all.result.now
    c.items.ensures c.items-then-names_all.ensures (sym c.count.ensures ∙ c.if-count-len.false ∙ c.len.ensures ∙ sym (length-map c.args.plan.now.atoms fact_of))
    (c.names_all.ensures.0 c.if-names_all.true) c.each_follows.result c.each_follows.ensures

pub returns-else-names_all : goal.returns-else-names_all
returns-else-names_all c = (
  λ yes. absurd (false≢true (sym c.if-names_all.false ∙ yes)),
  λ is_order. c.names_all.ensures.1 (λ number has. subst (λ it. Contains it number) (sym c.items.ensures) ((is_order.names number).1 has)),
)

pub returns-then-count-len : goal.returns-then-count-len
returns-then-count-len c = (
  λ yes. absurd (false≢true yes),
  λ is_order. absurd (c.if-count-len.true (c.count.ensures ∙ is_order.over ∙ length-map c.args.plan.now.atoms fact_of ∙ sym c.len.ensures)),
)
