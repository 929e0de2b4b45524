use Rattle.std.proofs.lemmas.Result.{IfOk-weaker}
use Rattle.esto_views.proofs.ExpandedLemmas.{plan_expands}
use Rattle.esto_views.proofs.FlatLemmas.{expanded-flat}
use Rattle.esto_views.proofs.expansion.expand.Goals as goal

pub returns-clause-expands : goal.returns-clause-expands
returns-clause-expands c = IfOk-weaker c.expanded_facts.result _ _
    (λ expanded are. plan_expands c.args.plan.now c.args.fragments.now expanded (c.plans_are_sound.ensures c.args.plan.now) c.queries_are_sound.ensures are)
    c.expanded_facts.ensures

pub returns-clause-flat : goal.returns-clause-flat
returns-clause-flat c = IfOk-weaker c.expanded_facts.result _ _
    (λ expanded are. expanded-flat c.args.plan.now c.args.fragments.now expanded (c.plans_are_sound.ensures c.args.plan.now) c.queries_are_sound.ensures are)
    (returns-clause-expands c)
