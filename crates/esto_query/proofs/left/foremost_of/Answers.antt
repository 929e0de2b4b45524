use Rattle.std.proofs.Common.{◌≡◌, ◌⊎◌, sym, subst, inl, inr}
use Rattle.esto_query.specs.Trails.{with_trail}
use Rattle.esto_query.specs.Orders.{IsChoice}
use Rattle.esto_query.proofs.left.foremost_of.Goals as goal

-- what holds of two holds of the one of them that is taken
of_either : {X : Type 0} (P : X → Type 0) (one other taken : X) → (taken ≡ one) ⊎ (taken ≡ other) → P one → P other → P taken
of_either P one other taken (inl same) first second = subst P (sym same) first
of_either P one other taken (inr same) first second = subst P (sym same) second

pub places-init : goal.places-init
places-init c = record { least = c.ranked_of-least.ensures; best = c.ranked_of-least.ensures }

pub places-preserved : goal.places-preserved
places-preserved c =
    let known = with_trail c.args.start.now c.args.trail.now in
    record {
      least = of_either (λ ranked. IsChoice c.args.facts.now c.args.left.now known ranked.choice) _ _ _ c.fewer-least.ensures c.places.invariant.least
          c.ranked_of-next.ensures;
      best = of_either (λ ranked. IsChoice c.args.facts.now c.args.left.now known ranked.choice) _ _ _ c.better-best.ensures c.places.invariant.best
          c.ranked_of-next.ensures;
    }

pub returns-clause-least : goal.returns-clause-least
returns-clause-least c = c.places.invariant.least

pub returns-clause-best : goal.returns-clause-best
returns-clause-best c = c.places.invariant.best
