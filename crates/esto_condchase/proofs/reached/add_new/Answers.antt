use Rattle.std.proofs.Common.{◌∙◌}
use Rattle.std.proofs.lemmas.Result.{on_ok_weaker}
use Rattle.esto_condchase.proofs.KnownLemmas.{reach_new, reached_more}
use Rattle.esto_condchase.proofs.reached.add_new.Goals as goal

pub returns-clause-counted : goal.returns-clause-counted
returns-clause-counted c = on_ok_weaker c.push.result
    (λ is. reached_more c.args.count c.args.ones.now.items c.push.new.items.items (record { to = c.args.to; by = c.in_ok-by.by })
    is (c.in_ok-by.ensures.count ∙ c.requires.sets) c.requires.counted) c.push.ensures

pub returns-clause-reach : goal.returns-clause-reach
returns-clause-reach c = on_ok_weaker c.push.result
    (λ is. reach_new c.args.ones.now.items c.push.new.items.items (record { to = c.args.to; by = c.in_ok-by.by }) c.args.sets.now.sets
    c.args.others.now.sets is c.in_ok-by.ensures.covers) c.push.ensures
