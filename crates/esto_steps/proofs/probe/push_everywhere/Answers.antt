use Rattle.std.proofs.Common.{[], get_or, arith, refl, ◌∙◌}
use Rattle.esto_steps.specs.Paired.{gained_rows}
use Rattle.esto_steps.proofs.ProbeLemmas.{below_start, below_more, below_end}
use Rattle.esto_steps.proofs.probe.push_everywhere.Goals as goal

pub rows-init : goal.rows-init
rows-init c = (
  (below_start c.args.join.now.get.now c.args.join.now.kept.now (get_or c.args.so_far.now.rows c.args.at []) c.args.rows.now.rows
      (gained_rows c.args.join.now.kept.now c.args.so_far.now c.args.rows.now c.args.into.now)),
  refl,
)

pub rows-preserved : goal.rows-preserved
rows-preserved c = (
  (below_more c.args.join.now.get.now c.args.join.now.kept.now (get_or c.args.so_far.now.rows c.args.at []) c.args.rows.now.rows
      (gained_rows c.args.join.now.kept.now c.args.so_far.now c.args.rows.now c.args.into.now) c.rows.place
      (gained_rows c.args.join.now.kept.now c.args.so_far.now c.args.rows.now c.rows.into)
      (gained_rows c.args.join.now.kept.now c.args.so_far.now c.args.rows.now c.push_follower.new.into) c.rows.invariant.0 c.in_ok-push_follower.ensures.rows),
  c.in_ok-push_follower.ensures.arity ∙ c.rows.invariant.1,
)

pub returns-clause-rows : goal.returns-clause-rows
returns-clause-rows c = below_end c.args.join.now.get.now c.args.join.now.kept.now (get_or c.args.so_far.now.rows c.args.at []) c.args.rows.now.rows
    (gained_rows c.args.join.now.kept.now c.args.so_far.now c.args.rows.now c.args.into.now) c.rows.place
    (gained_rows c.args.join.now.kept.now c.args.so_far.now c.args.rows.now c.rows.into)
    (let past = c.rows-test.false in let count = c.len-place-end.ensures in omega (arith, past, count)) c.rows.invariant.0

pub push_follower-requires-clause-arity : goal.push_follower-requires-clause-arity
push_follower-requires-clause-arity c = c.rows.invariant.1 ∙ c.requires.arity
