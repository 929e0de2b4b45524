use Rattle.std.proofs.Common.{[], inl, inr, subst}
use Rattle.std.proofs.lemmas.Result.{on_ok_weaker}
use Rattle.esto_known.specs.Live.{AreOld}
use Rattle.esto_condchase.proofs.AskLemmas.{AsksMore-then}
use Rattle.esto_condchase.proofs.MeetLemmas.{on_ok_both}
use Rattle.esto_condchase.proofs.JoinLemmas.{group_met}
use Rattle.esto_condchase.proofs.joining.join_group.Goals as goal

pub returns-then-not-has_later-clause-met : goal.returns-then-not-has_later-clause-met
returns-then-not-has_later-clause-met c = inl (subst (AreOld c.args.since) c.items.ensures (c.has_later.ensures.old c.if-not-has_later.true))

pub returns-clause-asks : goal.returns-clause-asks
returns-clause-asks c = on_ok_weaker c.join_side-2.result (λ asks rules. AsksMore-then rules c.args.count c.args.entries.now c.args.more.now _ _
    (c.in_ok-join_side.ensures.asks rules) (asks rules)) c.join_side-2.ensures.asks

pub returns-clause-met : goal.returns-clause-met
returns-clause-met c = on_ok_both c.join_side-2.result (λ asks met. inr (group_met c.args.entries.now c.join_side.new.more c.join_side-2.new.more
    c.args.groups.now c.args.since c.args.number c.args.first.now.claim c.in-Same.left c.in-Same.right c.in-Same.is (asks []).kept
    c.in_ok-join_side.ensures.met met))
    c.join_side-2.ensures.asks c.join_side-2.ensures.met
