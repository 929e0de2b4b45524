use Rattle.std.proofs.Common.{[], Contains, sym, subst, ◌∙◌}
use Rattle.std.proofs.lemmas.List.{get_or_default, take_all}
use Rattle.esto_condchase.proofs.AskLemmas.{AsksMore-then}
use Rattle.esto_condchase.proofs.JoinLemmas.{side_turn}
use Rattle.esto_condchase.proofs.joining.join_side.Goals as goal

pub places-preserved : goal.places-preserved
places-preserved c = record {
  asks = λ rules. AsksMore-then rules c.args.count c.args.entries.now c.args.more.now _ _ (c.places.invariant.asks rules) (c.in_ok-join_at.ensures.asks rules);
  met = side_turn c.args.entries.now c.places.more c.join_at.new.more c.args.groups.now c.args.since c.args.number c.args.first.now.claim c.args.from.now
      c.args.via.now c.items-place-items.result.now c.places.place-index _ c.places-test.true
      (get_or_default c.items-place-items.result.now c.places.place-index _ _ c.places-test.true) (c.in_ok-join_at.ensures.asks []).kept
      c.places.invariant.met c.in_ok-join_at.ensures.met;
}

pub returns-clause-met : goal.returns-clause-met
returns-clause-met c place other at has = c.places.invariant.met place other
    (subst (λ it. Contains it place) (sym (take_all c.places.place-index c.items-place-items.result.now c.places-test.false ∙ c.items-place-items.ensures))
    (c.in_ok-places.ensures place other at has)) at
