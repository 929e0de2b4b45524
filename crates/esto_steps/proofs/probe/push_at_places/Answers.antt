use Rattle.std.proofs.Common.{[], get_or, refl, ◌∙◌}
use Rattle.std.proofs.lemmas.List.{get_or_default}
use Rattle.esto_steps.specs.Joined.{IsFollowerAt, IsKept}
use Rattle.esto_steps.specs.Paired.{gained_rows}
use Rattle.esto_steps.proofs.JoinLemmas.{gains_more, gains_all}
use Rattle.esto_steps.proofs.ProbeLemmas.{gains_start}
use Rattle.esto_steps.proofs.probe.push_at_places.Goals as goal

pub places-init : goal.places-init
places-init c = (
  (gains_start c.args.places.now
      (λ place. IsKept c.args.join.now.kept.now (IsFollowerAt c.args.join.now.get.now (get_or c.args.so_far.now.rows c.args.at []) c.args.rows.now.rows place))
      (gained_rows c.args.join.now.kept.now c.args.so_far.now c.args.rows.now c.args.into.now)),
  refl,
)

pub places-preserved : goal.places-preserved
places-preserved c = (
  (gains_more
      (λ place. IsKept c.args.join.now.kept.now (IsFollowerAt c.args.join.now.get.now (get_or c.args.so_far.now.rows c.args.at []) c.args.rows.now.rows place))
      c.args.places.now (gained_rows c.args.join.now.kept.now c.args.so_far.now c.args.rows.now c.args.into.now)
      (gained_rows c.args.join.now.kept.now c.args.so_far.now c.args.rows.now c.places.into)
      (gained_rows c.args.join.now.kept.now c.args.so_far.now c.args.rows.now c.push_follower.new.into) c.places.place-index
      (get_or c.args.places.now c.places.place-index 0) c.places-test.true
      (get_or_default c.args.places.now c.places.place-index 0 (get_or c.args.places.now c.places.place-index 0) c.places-test.true)
      c.places.invariant.0 c.in_ok-push_follower.ensures.rows),
  c.in_ok-push_follower.ensures.arity ∙ c.places.invariant.1,
)

pub returns-clause-rows : goal.returns-clause-rows
returns-clause-rows c = gains_all
    (λ place. IsKept c.args.join.now.kept.now (IsFollowerAt c.args.join.now.get.now (get_or c.args.so_far.now.rows c.args.at []) c.args.rows.now.rows place))
    c.args.places.now (gained_rows c.args.join.now.kept.now c.args.so_far.now c.args.rows.now c.args.into.now)
    (gained_rows c.args.join.now.kept.now c.args.so_far.now c.args.rows.now c.places.into) c.places.place-index c.places-test.false c.places.invariant.0

pub push_follower-requires-clause-arity : goal.push_follower-requires-clause-arity
push_follower-requires-clause-arity c = c.places.invariant.1 ∙ c.requires.arity
