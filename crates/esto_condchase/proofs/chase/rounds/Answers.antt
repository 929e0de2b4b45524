use Rattle.std.proofs.Common.{length, sym, ◌∙◌, ap, arith, subst, Contains}
use Rattle.std.specs.Prelude.{slice_index}
use Rattle.esto_constraint.specs.Constraints.{rules_of}
use Rattle.esto_constraint.proofs.RankLemmas.{rules-AreRules, ranks-RanksRise, depth_of, ranks-small, depth-small}
use Rattle.esto_chase_laws.specs.Derived.{AreDerived}
use Rattle.esto_chase_laws.specs.WorldLaws.{AreGiven}
use Rattle.esto_chase_laws.specs.WorldSteps.{AreAnswered, AreJoined}
use Rattle.esto_condchase.proofs.LoopLemmas.{answered_same, grown_same, turn_given, turn_falls, turn_same, end_answered, end_joined}
use Rattle.esto_condchase.proofs.NewsLemmas.{before_same, none_answered, turn_answered, none_joined, turn_joined}
use Rattle.esto_condchase.proofs.chase.rounds.Goals as goal

pub give_all-requires-clause-atoms : goal.give_all-requires-clause-atoms
give_all-requires-clause-atoms c fact inside = c.requires.atoms fact (subst (λ it. Contains it fact) c.items.ensures inside)

pub rounds-init : goal.rounds-init
rounds-init c = record {
  derived = subst (λ it. AreDerived it (rules_of c.args.rules.now) c.give_all.new.entries) c.items.ensures
      (c.in_ok-give_all.ensures.derived (rules_of c.args.rules.now));
  new = c.in_ok-give_all.ensures.new;
  counted = c.in_ok-give_all.ensures.counted;
  given = subst (λ it. AreGiven it c.give_all.new.entries) c.items.ensures c.in_ok-give_all.ensures.given;
  before = none_answered (rules_of c.args.rules.now) c.give_all.new.entries (rules-AreRules c.args.rules.now c.rules_are_sound.ensures.rules);
  joined_before = none_joined c.give_all.new.entries;
}

pub next-requires-clause-before : goal.next-requires-clause-before
next-requires-clause-before c =
    before_same (rules_of c.args.rules.now) _ c.rounds.entries c.rounds.since (ap rules_of c.items-in-rounds.ensures) c.rounds.invariant.before

pub returns-then-len-before-clause-derived : goal.returns-then-len-before-clause-derived
returns-then-len-before-clause-derived c =
    let grown = grown_same c.items-in-rounds.result.now c.args.rules.now c.rounds.entries c.next.new.entries c.items-in-rounds.ensures
    c.in_ok-next.ensures.grown in
    grown.1.derived c.args.facts.now c.rounds.invariant.derived

pub returns-then-len-before-clause-new : goal.returns-then-len-before-clause-new
returns-then-len-before-clause-new c =
    let grown = grown_same c.items-in-rounds.result.now c.args.rules.now c.rounds.entries c.next.new.entries c.items-in-rounds.ensures
    c.in_ok-next.ensures.grown in
    grown.1.new c.rounds.invariant.new

pub returns-then-len-before-clause-given : goal.returns-then-len-before-clause-given
returns-then-len-before-clause-given c =
    let grown = grown_same c.items-in-rounds.result.now c.args.rules.now c.rounds.entries c.next.new.entries c.items-in-rounds.ensures
    c.in_ok-next.ensures.grown in
    turn_given c.args.facts.now (rules_of c.args.rules.now) c.args.atoms c.rounds.entries grown.0 c.next.new.entries grown.1 c.rounds.invariant.given

pub returns-then-len-before-clause-answered : goal.returns-then-len-before-clause-answered
returns-then-len-before-clause-answered c =
    let grown = grown_same c.items-in-rounds.result.now c.args.rules.now c.rounds.entries c.next.new.entries c.items-in-rounds.ensures
    c.in_ok-next.ensures.grown in
    end_answered (rules_of c.args.rules.now) c.rounds.entries c.next.new.entries (turn_same c.args.facts.now (rules_of c.args.rules.now) c.args.atoms
    c.rounds.entries grown.0 c.next.new.entries grown.1 (sym c.len.ensures ∙ c.if-len-before.true ∙ c.len-before.ensures))
    (answered_same c.items-in-rounds.result.now c.args.rules.now _ _ c.items-in-rounds.ensures c.in_ok-next.ensures.answered)

pub returns-then-len-before-clause-joined : goal.returns-then-len-before-clause-joined
returns-then-len-before-clause-joined c =
    let grown = grown_same c.items-in-rounds.result.now c.args.rules.now c.rounds.entries c.next.new.entries c.items-in-rounds.ensures
    c.in_ok-next.ensures.grown in
    end_joined c.rounds.entries c.next.new.entries (turn_same c.args.facts.now (rules_of c.args.rules.now) c.args.atoms c.rounds.entries grown.0
    c.next.new.entries grown.1 (sym c.len.ensures ∙ c.if-len-before.true ∙ c.len-before.ensures)) c.in_ok-next.ensures.joined

pub rounds-smaller : goal.rounds-smaller
rounds-smaller c =
    let grown = grown_same c.items-in-rounds.result.now c.args.rules.now c.rounds.entries c.next.new.entries c.items-in-rounds.ensures
    c.in_ok-next.ensures.grown in
    let rules = rules_of c.args.rules.now in
    let ranks = c.args.ranks.now in
    turn_falls c.args.facts.now rules c.args.atoms c.rounds.entries grown.0 c.next.new.entries grown.1
    c.derived_entries_are_bounded.ensures.few (slice_index ranks) (depth_of ranks)
    (rules-AreRules c.args.rules.now c.rules_are_sound.ensures.rules) c.requires.flat
    (ranks-RanksRise rules ranks (c.ranks_rise.ensures.rise rules (length ranks) ranks c.requires.within c.requires.ranks))
    (ranks-small ranks (c.ranks_rise.ensures.small rules (length ranks) ranks c.requires.within c.requires.ranks))
    (depth-small ranks c.len-count.result c.len-count.ensures (omega (arith, c.len-count.type_inv)))
    c.rounds.invariant.derived c.rounds.invariant.new c.in_ok-next.ensures.counted
    (λ same. c.if-len-before.false (c.len.ensures ∙ same ∙ sym c.len-before.ensures))

pub rounds-preserved : goal.rounds-preserved
rounds-preserved c =
    let grown = grown_same c.items-in-rounds.result.now c.args.rules.now c.rounds.entries c.next.new.entries c.items-in-rounds.ensures
    c.in_ok-next.ensures.grown in
    let is = grown.1.more.1 in
    record {
      derived = grown.1.derived c.args.facts.now c.rounds.invariant.derived;
      new = grown.1.new c.rounds.invariant.new;
      counted = c.in_ok-next.ensures.counted;
      given = turn_given c.args.facts.now (rules_of c.args.rules.now) c.args.atoms c.rounds.entries grown.0 c.next.new.entries grown.1
          c.rounds.invariant.given;
      before = turn_answered (rules_of c.args.rules.now) c.rounds.entries grown.1.more.0 c.next.new.entries c.len-before.result is c.len-before.ensures
          (subst (AreAnswered (rules_of c.args.rules.now) c.rounds.entries) is (answered_same c.items-in-rounds.result.now c.args.rules.now _ _
          c.items-in-rounds.ensures c.in_ok-next.ensures.answered));
      joined_before = turn_joined c.rounds.entries grown.1.more.0 c.next.new.entries c.len-before.result is c.len-before.ensures
          (subst (AreJoined c.rounds.entries) is c.in_ok-next.ensures.joined);
    }
