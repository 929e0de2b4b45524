use Rattle.std.proofs.Common.{[], Contains, refl, sym, subst, ◌∙◌}
use Rattle.std.proofs.lemmas.List.{get_or_default, take_all}
use Rattle.esto_term.proofs.ListLemmas.{Contains-nil, Contains-read}
use Rattle.esto_condchase.proofs.AskLemmas.{AsksMore-none}
use Rattle.esto_condchase.proofs.JoinLemmas.{asks_on, met_turn}
use Rattle.esto_condchase.proofs.joining.join_one.Goals as goal

pub seconds-init : goal.seconds-init
seconds-init c = record {
  count = refl;
  tell = c.requires.tell;
  asks = λ rules. AsksMore-none rules c.args.sets.now.count c.args.entries.now c.args.more.now;
  met = λ second inside. absurd (Contains-nil second inside);
}

pub join_two-requires-clause-meet : goal.join_two-requires-clause-meet
join_two-requires-clause-meet c = c.requires.meet _ (Contains-read c.args.seconds.now c.seconds.second-index _ c.seconds-test.true
    (get_or_default c.args.seconds.now c.seconds.second-index _ _ c.seconds-test.true))

pub join_two-requires-clause-counts : goal.join_two-requires-clause-counts
join_two-requires-clause-counts c entry inside = c.requires.counts entry inside ∙ sym c.seconds.invariant.count

pub seconds-preserved : goal.seconds-preserved
seconds-preserved c = record {
  count = c.in_ok-join_two.ensures.count ∙ c.seconds.invariant.count;
  tell = c.in_ok-join_two.ensures.tell;
  asks = λ rules. asks_on rules c.args.sets.now.count _ c.args.entries.now c.args.more.now _ _ c.seconds.invariant.count (c.seconds.invariant.asks rules)
      (c.in_ok-join_two.ensures.asks rules);
  met = met_turn c.args.entries.now c.args.since c.seconds.more c.join_two.new.more c.args.first c.args.seconds.now c.seconds.second-index _ c.args.from.now
      c.args.to.now c.seconds-test.true
      (get_or_default c.args.seconds.now c.seconds.second-index _ _ c.seconds-test.true) (c.in_ok-join_two.ensures.asks []).kept
      c.seconds.invariant.met c.in_ok-join_two.ensures.met;
}

pub returns-clause-met : goal.returns-clause-met
returns-clause-met c second inside = c.seconds.invariant.met second (subst (λ it. Contains it second)
    (sym (take_all c.seconds.second-index c.args.seconds.now c.seconds-test.false)) inside)
