use Rattle.std.proofs.Common.{◌≡◌, ◌∙◌, Some, slice_get, subst}
use Rattle.std.proofs.lemmas.Result.{on_ok_weaker}
use Rattle.esto_condchase.proofs.KnownLemmas.{reach_there}
use Rattle.esto_condchase.proofs.reached.add.Goals as goal

pub returns-in_default-clause-counted : goal.returns-in_default-clause-counted
returns-in_default-clause-counted c = c.add_new.ensures.counted

pub returns-in_default-clause-reach : goal.returns-in_default-clause-reach
returns-in_default-clause-reach c = c.add_new.ensures.reach

pub returns-clause-counted : goal.returns-clause-counted
returns-clause-counted c = c.add_at.ensures.counted

pub returns-clause-reach : goal.returns-clause-reach
returns-clause-reach c =
    let (one, there, is) = c.in-Some.ensures in
    on_ok_weaker c.add_at.result
    (reach_there c.args.ones.now.items c.add_at.new.ones.items c.in-Some.place c.args.to c.args.sets.now.sets c.args.others.now.sets
    (one, subst (λ them. slice_get them c.in-Some.place ≡ Some one) c.as_slice.ensures.value there, is ∙ c.items.ensures)) c.add_at.ensures.reach
