use Rattle.std.proofs.Common.{◌↔◌, List, Bool, subst, sym}
use Rattle.esto_term.proofs.ListLemmas.{Contains-read}
use Rattle.esto_condchase.proofs.SumLemmas.{gathers_more, gathers_all}
use Rattle.esto_term.specs.declared.term.Term.{Term}
use Rattle.esto_condchase.specs.declared.reached.Reached.{Reached}
use Rattle.esto_condchase.specs.Products.{AreReachedOf, Reach, Steps, StepsFrom}
use Rattle.esto_condchase.proofs.reached.next.Goals as goal

pub steps_from-requires-clause-one : goal.steps_from-requires-clause-one
steps_from-requires-clause-one c =
    c.requires.ones c.one-item.result (Contains-read c.args.ones.now c.ones.one-index c.one-item.result c.ones-test.true c.one-item.is)

pub ones-preserved : goal.ones-preserved
ones-preserved c = record {
  counted = c.in_ok-steps_from.ensures.counted;
  gathers = gathers_more (λ (key : List Term × List Bool) (one : Reached). StepsFrom c.args.groups.now c.args.from.now c.args.these.now c.args.atom.now one
      key.0 key.1) c.args.ones.now c.ones.one-index c.one-item.result (λ key. Reach c.ones.later.items key.0 key.1)
      (λ key. Reach c.steps_from.new.later.items key.0 key.1) c.ones-test.true c.one-item.is c.ones.invariant.gathers
      (λ key. c.in_ok-steps_from.ensures.reach key.0 key.1);
}

pub returns-clause-counted : goal.returns-clause-counted
returns-clause-counted c = subst (AreReachedOf c.args.count) (sym c.from_vec.ensures) c.ones.invariant.counted

pub returns-clause-reach : goal.returns-clause-reach
returns-clause-reach c to set =
    subst (λ it. Reach it to set ↔ Steps c.args.groups.now c.args.from.now c.args.these.now c.args.atom.now c.args.ones.now to set) (sym c.from_vec.ensures)
    (gathers_all (λ (key : List Term × List Bool) (one : Reached). StepsFrom c.args.groups.now c.args.from.now c.args.these.now c.args.atom.now one key.0
    key.1) c.args.ones.now c.ones.one-index (λ key. Reach c.ones.later.items key.0 key.1) c.ones-test.false c.ones.invariant.gathers (to, set))
