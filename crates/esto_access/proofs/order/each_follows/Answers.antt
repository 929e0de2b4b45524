use Rattle.std.proofs.Common.{take, refl, sym, ◌∙◌, below_more}
use Rattle.std.proofs.lemmas.Bool.{false≢true}
use Rattle.std.proofs.lemmas.Option.{slice_get-get_or}
use Rattle.esto_views.specs.Fragments.{patterns_of}
use Rattle.esto_views.specs.Plans.{plan_query}
use Rattle.esto_access.specs.Runs.{CanFollow}
use Rattle.esto_access.proofs.AtomLemmas.{holds_at_each}
use Rattle.esto_access.proofs.order.each_follows.Goals as goal

pub returns-then-not-can_follow : goal.returns-then-not-can_follow
returns-then-not-can_follow c = (
  λ holds. absurd (false≢true holds),
  λ each. absurd (false≢true (sym c.if-not-can_follow.true
      ∙ c.can_follow.ensures.1 (each c.places.place _ (slice_get-get_or c.args.order.now c.places.place 0 c.places-test.true)))),
)

pub places-preserved : goal.places-preserved
places-preserved c = below_more _ _ c.places.invariant (c.can_follow.ensures.0 c.if-not-can_follow.false)

pub returns : goal.returns
returns c = (
  λ _. holds_at_each (λ place number. CanFollow (patterns_of c.args.fragments.now) (plan_query c.args.plan.now).body c.args.set.now
      (take place c.args.order.now) number) c.args.order.now c.places.place c.places-test.false c.places.invariant,
  λ _. refl,
)
