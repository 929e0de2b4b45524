use Rattle.std.proofs.Common.{◌≤◌, [], length, subst, arith}
use Rattle.esto_condchase.proofs.AskLemmas.{AsksMore-none, AsksMore-then}
use Rattle.esto_condchase.proofs.JoinLemmas.{met_before_turn, all_joined}
use Rattle.esto_condchase.proofs.joining.join_groups.Goals as goal

pub firsts-init : goal.firsts-init
firsts-init c = record {
  asks = λ rules. AsksMore-none rules c.args.count c.args.entries.now c.args.more.now;
  met = λ number first below. absurd (omega (arith, below));
}

pub firsts-preserved : goal.firsts-preserved
firsts-preserved c = record {
  asks = λ rules. AsksMore-then rules c.args.count c.args.entries.now c.args.more.now _ _ (c.firsts.invariant.asks rules)
      (c.in_ok-join_group.ensures.asks rules);
  met = met_before_turn c.args.entries.now c.firsts.more c.join_group.new.more c.args.groups.now c.items-first-items.result.now c.args.since c.firsts.number
      c.first-item.result c.items-first-items.ensures c.firsts-test.true c.first-item.is (c.in_ok-join_group.ensures.asks []).kept
      c.firsts.invariant.met c.in_ok-join_group.ensures.met;
}

pub returns-clause-joined : goal.returns-clause-joined
returns-clause-joined c = all_joined c.args.entries.now c.firsts.more c.args.groups.now c.args.since c.firsts.number c.requires.groups
    (subst (λ its. length its ≤ c.firsts.number) c.items-first-items.ensures c.firsts-test.false) c.requires.before c.firsts.invariant.met
