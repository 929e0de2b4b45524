use Rattle.std.proofs.Common.{Some, ap, sym, ◌∙◌}
use Rattle.std.specs.List.{list_any}
use Rattle.esto_rewriting.specs.Members.{has_plan}
use Rattle.esto_rewriting.specs.declared.members.Member.{Member}
use Rattle.esto_rewriting.proofs.UnionExactLemmas.{first_not_planned}
use Rattle.esto_rewriting.proofs.members.clash_of.Goals as goal

pub unreachable-requires : goal.unreachable-requires
unreachable-requires c =
    first_not_planned c.args.members.now c.in-Planned.field-0 c.in-Planned.field-1
    (ap (list_any has_plan) (sym c.items.ensures) ∙ sym c.have_plan.ensures ∙ c.if-have_plan.false)
    (c.item.ensures ∙ ap (λ (it : Member). Some it) c.in-Planned.is)
