use Rattle.std.proofs.Common.{[], sym, subst}
use Rattle.esto_semantics.specs.Maps.{AreFlat}
use Rattle.esto_semantics.specs.Cores.{AreLeft}
use Rattle.esto_views.proofs.FlatLemmas.{plan_atoms-flat}
use Rattle.esto_core.proofs.CoredLemmas.{head-flat}
use Rattle.esto_core.proofs.cored.cored_plan.Goals as goal

pub left_of-requires-clause-flat_head : goal.left_of-requires-clause-flat_head
left_of-requires-clause-flat_head c = head-flat c.args.plan.now (c.plans_are_sound.ensures c.args.plan.now)

pub left_of-requires-clause-flat : goal.left_of-requires-clause-flat
left_of-requires-clause-flat c =
    subst AreFlat (sym c.in_ok-facts.ensures) (plan_atoms-flat c.args.plan.now (c.plans_are_sound.ensures c.args.plan.now))

pub renamed_plan-requires : goal.renamed_plan-requires
renamed_plan-requires c = (c.plans_are_sound.ensures c.args.plan.now).has_head

pub returns : goal.returns
returns c = record {
  left = c.in_ok-left.left;
  are_left = subst (λ facts. AreLeft c.args.plan.now.head [] facts c.in_ok-left.left) c.in_ok-facts.ensures c.in_ok-left.ensures;
  renamed = c.in_ok-cored.ensures;
}
