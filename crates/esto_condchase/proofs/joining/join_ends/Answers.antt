use Rattle.std.proofs.Common.{inl, sym, subst}
use Rattle.std.proofs.lemmas.Result.{on_ok_weaker}
use Rattle.esto_chase_laws.specs.Worlds.{AreOfCount}
use Rattle.esto_condchase.specs.Rounds.{AsksMore}
use Rattle.esto_condchase.proofs.AskLemmas.{AsksMore-none}
use Rattle.esto_condchase.proofs.joining.join_ends.Goals as goal

pub returns-then-equal-clause-asks : goal.returns-then-equal-clause-asks
returns-then-equal-clause-asks c rules = AsksMore-none rules c.args.count c.args.entries.now c.args.more.now

pub returns-then-equal-clause-met : goal.returns-then-equal-clause-met
returns-then-equal-clause-met c set covers covers_too = inl (c.equal.ensures.0 c.if-equal.true)

pub join_open-requires-clause-first : goal.join_open-requires-clause-first
join_open-requires-clause-first c = c.requires.groups.each c.args.first.now c.requires.first

pub join_open-requires-clause-second : goal.join_open-requires-clause-second
join_open-requires-clause-second c = c.requires.groups.each c.args.second.now c.requires.second

pub join_open-requires-clause-meet : goal.join_open-requires-clause-meet
join_open-requires-clause-meet c = c.requires.meet

pub join_open-requires-clause-before : goal.join_open-requires-clause-before
join_open-requires-clause-before c = c.requires.before

pub join_open-requires-clause-counts : goal.join_open-requires-clause-counts
join_open-requires-clause-counts c =
    subst (λ n. AreOfCount n c.args.entries.now) (sym (c.in_ok-sets.ensures.count c.args.entries.now c.requires.groups c.requires.counts)) c.requires.counts

pub join_open-requires-clause-tell : goal.join_open-requires-clause-tell
join_open-requires-clause-tell c = c.in_ok-sets.ensures.tell c.args.entries.now c.requires.groups

pub returns-clause-asks : goal.returns-clause-asks
returns-clause-asks c = on_ok_weaker c.join_open.result
    (λ asks rules. subst (λ n. AsksMore rules n c.args.entries.now c.args.more.now c.join_open.new.more)
    (c.in_ok-sets.ensures.count c.args.entries.now c.requires.groups c.requires.counts) (asks rules)) c.join_open.ensures.asks

pub returns-clause-met : goal.returns-clause-met
returns-clause-met c = c.join_open.ensures.met
