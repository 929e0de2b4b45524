use Rattle.std.proofs.Common.{◌≡◌, ◌+◌, ◌-◌, [], length, get_or, sym, subst, arith, refl, ◌∙◌}
use Rattle.esto_columns.specs.Indexed.{bucket_of, LeadsOn}
use Rattle.esto_steps.specs.Joined.{IsFollowerAt, IsKept}
use Rattle.esto_steps.specs.Paired.{gained_rows}
use Rattle.esto_steps.proofs.IndexLemmas.{walk_start, walk_on, walk_end}
use Rattle.esto_steps.proofs.join.push_followers.Goals as goal

pub places-init : goal.places-init
places-init c = (
  (λ buckets are.
      let bucket = bucket_of (length c.args.index.now.last) c.args.key.now in
      walk_start
      (λ place. IsKept c.args.join.now.kept.now (IsFollowerAt c.args.join.now.get.now (get_or c.args.so_far.now.rows c.args.at []) c.args.rows.now.rows place))
      buckets bucket (gained_rows c.args.join.now.kept.now c.args.so_far.now c.args.rows.now c.args.into.now) c.last_of-next.result
      (subst (LeadsOn buckets bucket (length buckets)) (sym c.last_of-next.ensures) (are.last bucket))),
  refl,
)

pub places-preserved : goal.places-preserved
places-preserved c = (
  (λ buckets are.
      let bucket = bucket_of (length c.args.index.now.last) c.args.key.now in
      let walked = c.places.invariant.0 buckets are in
      let some = c.places-test.true in
      let is : c.places.next - 1 + 1 ≡ c.places.next = omega (arith, some) in
      let leads = are.before (c.places.next - 1) bucket (walked.own (c.places.next - 1) is) in
      walk_on
      (λ place. IsKept c.args.join.now.kept.now (IsFollowerAt c.args.join.now.get.now (get_or c.args.so_far.now.rows c.args.at []) c.args.rows.now.rows place))
      buckets bucket (gained_rows c.args.join.now.kept.now c.args.so_far.now c.args.rows.now c.args.into.now) c.places.next (c.places.next - 1)
      c.before-next.result (gained_rows c.args.join.now.kept.now c.args.so_far.now c.args.rows.now c.places.into)
      (gained_rows c.args.join.now.kept.now c.args.so_far.now c.args.rows.now c.push_follower.new.into) is
      (subst (LeadsOn buckets bucket (c.places.next - 1)) (sym (c.before-next.ensures.value leads.within)) leads) walked c.in_ok-push_follower.ensures.rows),
  c.in_ok-push_follower.ensures.arity ∙ c.places.invariant.1,
)

pub places-smaller : goal.places-smaller
places-smaller c = let within = c.before-next.ensures.within in let some = c.places-test.true in omega (arith, within, some)

pub returns-clause-rows : goal.returns-clause-rows
returns-clause-rows c = λ buckets are.
    walk_end
    (λ place. IsKept c.args.join.now.kept.now (IsFollowerAt c.args.join.now.get.now (get_or c.args.so_far.now.rows c.args.at []) c.args.rows.now.rows place))
    buckets (bucket_of (length c.args.index.now.last) c.args.key.now)
    (gained_rows c.args.join.now.kept.now c.args.so_far.now c.args.rows.now c.args.into.now) c.places.next
    (gained_rows c.args.join.now.kept.now c.args.so_far.now c.args.rows.now c.places.into) c.places-test.false (c.places.invariant.0 buckets are)

pub push_follower-requires-clause-arity : goal.push_follower-requires-clause-arity
push_follower-requires-clause-arity c = c.places.invariant.1 ∙ c.requires.arity
