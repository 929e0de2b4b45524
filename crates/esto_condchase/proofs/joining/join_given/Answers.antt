use Rattle.std.proofs.Common.{inl, inr, Contains, sym, subst}
use Rattle.std.proofs.lemmas.Result.{on_ok_weaker}
use Rattle.esto_condchase.specs.Rounds.{AreOpen}
use Rattle.esto_known.specs.Live.{AreOld}
use Rattle.esto_condchase.proofs.JoinLemmas.{groups_met, places_meet, touching_later}
use Rattle.esto_condchase.proofs.joining.join_given.Goals as goal

pub returns-then-not-has_later-2-clause-met : goal.returns-then-not-has_later-2-clause-met
returns-then-not-has_later-2-clause-met c =
    let old = c.has_later.ensures.old c.if-not-has_later.true in
    let old_too = subst (AreOld c.args.since) c.items-then-not-has_later.ensures (c.has_later-then-not-has_later.ensures.old c.if-not-has_later-2.true) in
    groups_met c.args.entries.now c.args.more.now c.args.since c.args.first.now c.args.second.now c.args.from.now c.args.to.now c.requires.first
    c.requires.second c.requires.meet c.requires.before c.args.sets.now.sets c.requires.tell c.args.firsts.now c.in_ok-seconds.seconds c.requires.open
    (subst (λ it. AreOpen c.args.entries.now c.args.sets.now.sets it c.in_ok-seconds.seconds) c.items.ensures c.in_ok-seconds.ensures)
    (λ place other inside inside_too. inl (old place inside, old_too other inside_too))

pub join_each-requires-clause-meet : goal.join_each-requires-clause-meet
join_each-requires-clause-meet c place other inside inside_too =
    let given_too =
    (subst (λ it. AreOpen c.args.entries.now c.args.sets.now.sets it c.in_ok-seconds.seconds) c.items.ensures c.in_ok-seconds.ensures).of_given in
    places_meet c.args.entries.now c.args.first.now c.args.second.now c.args.from.now c.args.to.now c.requires.first c.requires.second c.requires.meet
    place other (c.requires.open.of_given place inside) (given_too other (subst (λ it. Contains it other) c.items-2.ensures inside_too))

pub join_each-requires-clause-tell : goal.join_each-requires-clause-tell
join_each-requires-clause-tell c set covers =
    touching_later c.args.entries.now c.args.more.now set c.args.from.now c.args.to.now (c.requires.tell set covers)

pub returns-clause-met : goal.returns-clause-met
returns-clause-met c = on_ok_weaker c.join_each.result (λ met. groups_met c.args.entries.now c.join_each.new.more c.args.since
    c.args.first.now c.args.second.now c.args.from.now c.args.to.now c.requires.first
    c.requires.second c.requires.meet c.requires.before c.args.sets.now.sets c.requires.tell c.args.firsts.now c.in_ok-seconds.seconds c.requires.open
    (subst (λ it. AreOpen c.args.entries.now c.args.sets.now.sets it c.in_ok-seconds.seconds) c.items.ensures c.in_ok-seconds.ensures)
    (λ place other inside inside_too. inr (met place other inside (subst (λ it. Contains it other) (sym c.items-2.ensures) inside_too))))
    c.join_each.ensures.met
