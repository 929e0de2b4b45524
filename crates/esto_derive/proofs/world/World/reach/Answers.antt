use Rattle.std.proofs.Common.{◌<◌, List, Contains, length, refl, subst, arith}
use Rattle.esto_derive.specs.Chains.{IsAt, reached_terms}
use Rattle.esto_derive.specs.declared.chains.Reached.{Reached}
use Rattle.esto_derive.proofs.ChainLemmas.{apart_more, passed_turn, reached_start, turn_falls, unlinked}
use Rattle.esto_derive.proofs.world.World.reach.Goals as goal

pub turns-init : goal.turns-init
turns-init c = record {
  are = reached_start c.args.self.now.entries.now c.args.self.now.set.now c.args.term.now _ refl refl c.args.reached.now c.push.new.self c.requires.none
      c.in_ok-push.ensures.ok;
  passed = λ place link below. absurd (omega (arith, below));
  apart = λ place it below. absurd (omega (arith, below));
}

pub turns-smaller : goal.turns-smaller
turns-smaller c =
    turn_falls c.args.self.now.entries.now c.args.self.now.set.now c.args.term.now c.turns.reached c.turns.invariant.are c.turns.at
    (omega (arith, c.turns-test.true, c.len.ensures))

pub turns-preserved : goal.turns-preserved
turns-preserved c =
    let it = c.args.self.now in
    let within : c.turns.at < length c.turns.reached = omega (arith, c.turns-test.true, c.len.ensures) in
    record {
      are = c.in_ok-go_on.ensures.grows.are c.args.term.now c.turns.invariant.are;
      passed = passed_turn it.entries.now it.set.now c.turns.reached c.go_on.new.reached c.in_ok-go_on.ensures.grows it.links.now c.turns.at within
          c.in_ok-go_on.ensures.passed c.turns.invariant.passed;
      apart = apart_more it.entries.now it.set.now c.turns.reached c.go_on.new.reached c.in_ok-go_on.ensures.grows c.args.other.now c.turns.at within
          (subst (λ (it : List Reached). ¬ (Contains (reached_terms it) c.args.other.now)) c.items.ensures c.in_default.ensures);
    }

pub returns-in-Some-clause-found : goal.returns-in-Some-clause-found
returns-in-Some-clause-found c = subst (λ (it : List Reached). IsAt it c.args.other.now c.in-Some.place) c.items.ensures c.in-Some.ensures

pub returns-clause-found : goal.returns-clause-found
returns-clause-found c =
    let it = c.args.self.now in
    unlinked it.entries.now it.set.now it.links.now c.turns.reached c.requires.links
    (λ place link there. c.turns.invariant.passed place link (omega (arith, there, c.turns-test.false, c.len.ensures)))
    c.args.term.now c.args.other.now c.turns.invariant.are
    (λ place its there. c.turns.invariant.apart place its (omega (arith, there, c.turns-test.false, c.len.ensures)))
