use Rattle.std.proofs.Common.{◌≡◌, ◌<◌, ◌≤◌, List, Bool, get_or, length, subst}
use Rattle.esto_term.proofs.ListLemmas.{Contains-read}
use Rattle.esto_condchase.proofs.SumLemmas.{gathers_over, gathers_over_more, gathers_over_all}
use Rattle.esto_term.specs.declared.term.Term.{Term}
use Rattle.esto_known.specs.declared.group.Group.{Group}
use Rattle.esto_condchase.specs.Products.{Reach, StepsWith}
use Rattle.esto_condchase.proofs.reached.steps_from.Goals as goal

pub groups-init : goal.groups-init
groups-init c = record {
  counted = c.requires.counted;
  gathers = gathers_over (λ (key : List Term × List Bool) (group : Group). StepsWith c.args.groups.now c.args.from.now c.args.these.now c.args.atom.now
      c.args.one.now group key.0 key.1) c.args.groups.now (λ key. Reach c.args.later.now.items key.0 key.1);
}

pub step_with-requires-clause-by : goal.step_with-requires-clause-by
step_with-requires-clause-by c =
    let inside = subst (λ them. c.groups.group-index < length them) c.items-group-items.ensures c.groups-test.true in
    let is = subst (λ them. c.group-item.result ≡ get_or them c.groups.group-index c.group-item.result) c.items-group-items.ensures c.group-item.is in
    c.requires.groups.counted c.group-item.result (Contains-read c.args.groups.now c.groups.group-index c.group-item.result inside is)

pub groups-preserved : goal.groups-preserved
groups-preserved c =
    let inside = subst (λ them. c.groups.group-index < length them) c.items-group-items.ensures c.groups-test.true in
    let is = subst (λ them. c.group-item.result ≡ get_or them c.groups.group-index c.group-item.result) c.items-group-items.ensures c.group-item.is in
    record {
      counted = c.in_ok-step_with.ensures.counted;
      gathers = gathers_over_more (λ (key : List Term × List Bool) (group : Group). StepsWith c.args.groups.now c.args.from.now c.args.these.now c.args.atom.now
          c.args.one.now group key.0 key.1) c.args.groups.now (λ key. Reach c.args.later.now.items key.0 key.1) c.groups.group-index c.group-item.result
          (λ key. Reach c.groups.later.items key.0 key.1) (λ key. Reach c.step_with.new.later.items key.0 key.1) inside is
          c.groups.invariant.gathers (λ key. c.in_ok-step_with.ensures.reach key.0 key.1);
    }

pub returns-clause-reach : goal.returns-clause-reach
returns-clause-reach c to set =
    gathers_over_all (λ (key : List Term × List Bool) (group : Group). StepsWith c.args.groups.now c.args.from.now c.args.these.now c.args.atom.now
    c.args.one.now group key.0 key.1) c.args.groups.now (λ key. Reach c.args.later.now.items key.0 key.1) c.groups.group-index
    (λ key. Reach c.groups.later.items key.0 key.1) (subst (λ them. length them ≤ c.groups.group-index) c.items-group-items.ensures c.groups-test.false)
    c.groups.invariant.gathers (to, set)
