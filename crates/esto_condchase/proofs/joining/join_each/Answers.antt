use Rattle.std.proofs.Common.{[], Contains, refl, sym, subst, ◌∙◌}
use Rattle.std.proofs.lemmas.List.{get_or_default, take_all}
use Rattle.esto_term.proofs.ListLemmas.{Contains-nil, Contains-read}
use Rattle.esto_condchase.proofs.AskLemmas.{AsksMore-none}
use Rattle.esto_condchase.proofs.JoinLemmas.{asks_on, each_turn}
use Rattle.esto_condchase.proofs.joining.join_each.Goals as goal

pub firsts-init : goal.firsts-init
firsts-init c = record {
  count = refl;
  tell = c.requires.tell;
  asks = λ rules. AsksMore-none rules c.args.sets.now.count c.args.entries.now c.args.more.now;
  met = λ first second inside. absurd (Contains-nil first inside);
}

pub join_one-requires-clause-meet : goal.join_one-requires-clause-meet
join_one-requires-clause-meet c second = c.requires.meet _ second (Contains-read c.args.firsts.now c.firsts.first-index _ c.firsts-test.true
    (get_or_default c.args.firsts.now c.firsts.first-index _ _ c.firsts-test.true))

pub join_one-requires-clause-counts : goal.join_one-requires-clause-counts
join_one-requires-clause-counts c entry inside = c.requires.counts entry inside ∙ sym c.firsts.invariant.count

pub firsts-preserved : goal.firsts-preserved
firsts-preserved c = record {
  count = c.in_ok-join_one.ensures.count ∙ c.firsts.invariant.count;
  tell = c.in_ok-join_one.ensures.tell;
  asks = λ rules. asks_on rules c.args.sets.now.count _ c.args.entries.now c.args.more.now _ _ c.firsts.invariant.count (c.firsts.invariant.asks rules)
      (c.in_ok-join_one.ensures.asks rules);
  met = each_turn c.args.entries.now c.args.since c.firsts.more c.join_one.new.more c.args.firsts.now c.args.seconds.now c.firsts.first-index _ c.args.from.now
      c.args.to.now c.firsts-test.true (get_or_default c.args.firsts.now c.firsts.first-index _ _ c.firsts-test.true) (c.in_ok-join_one.ensures.asks []).kept
      c.firsts.invariant.met c.in_ok-join_one.ensures.met;
}

pub returns-clause-met : goal.returns-clause-met
returns-clause-met c first second inside = c.firsts.invariant.met first second (subst (λ it. Contains it first)
    (sym (take_all c.firsts.first-index c.args.firsts.now c.firsts-test.false)) inside)
