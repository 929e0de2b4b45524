use Rattle.std.proofs.Common.{Contains, ap, subst, ◌∙◌}
use Rattle.std.proofs.lemmas.Result.{IfOk-weaker}
use Rattle.esto_chase_laws.specs.Runs.{start_of}
use Rattle.esto_views.specs.Expanded.{facts_chosen}
use Rattle.esto_backchase.proofs.candidates.Search.start_for.Goals as goal

pub facts_chosen-requires : goal.facts_chosen-requires
facts_chosen-requires c fact inside = c.requires fact (subst (λ facts. Contains facts fact) c.items.ensures inside)

pub returns-clause-state : goal.returns-clause-state
returns-clause-state c = IfOk-weaker c.of_facts.result _ _
    (λ _ state. state
    ∙ ap (λ facts. start_of (record { head = c.args.self.now.plan.now.head; body = facts }))
    (c.in_ok-facts.ensures ∙ ap (facts_chosen c.args.set.now) c.items.ensures)) c.of_facts.ensures.state
