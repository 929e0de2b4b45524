use Rattle.std.proofs.Common.{◌++◌, refl, ◌∙◌}
use Rattle.std.proofs.lemmas.Result.{on_ok_weaker}
use Rattle.esto_condchase.proofs.KnownLemmas.{step_more}
use Rattle.esto_condchase.proofs.reached.step_by.Goals as goal

pub returns-clause-counted : goal.returns-clause-counted
returns-clause-counted c = c.add_told.ensures.counted

pub returns-clause-reach : goal.returns-clause-reach
returns-clause-reach c = on_ok_weaker c.add_told.result
    (step_more c.args.groups.now c.args.from.now c.args.these.now c.args.atom.now c.args.one.now c.args.by.now.sets c.args.fact.now c.in_ok-to.to
    c.items-3.result.now c.items-5.result.now c.items-4.result.now c.in_ok-needs.needs.sets
    (c.in_ok-to.ensures ∙ (λ i. c.items.ensures i ++ c.items-2.ensures i)) c.items-3.ensures c.items-5.ensures c.items-4.ensures
    c.in_ok-needs.ensures.covers c.args.later.now.items _ c.items-6.result.now c.add_told.new.ones.items c.items-6.ensures refl) c.add_told.ensures.reach
