use Rattle.std.proofs.Common.{◌<◌, [], get_or, subst, arith, refl, ◌∙◌}
use Rattle.std.proofs.lemmas.List.{get_or_default}
use Rattle.esto_steps.specs.Paired.{gained_rows}
use Rattle.esto_steps.proofs.JoinLemmas.{joins_none, joins_more, joins_all}
use Rattle.esto_steps.proofs.join.push_each_joined.Goals as goal

pub rows-init : goal.rows-init
rows-init c = (
  (joins_none c.args.join.now.get.now c.args.join.now.kept.now c.args.so_far.now.rows c.args.rows.now.rows
      (gained_rows c.args.join.now.kept.now c.args.so_far.now c.args.rows.now c.args.into.now)
      c.requires.none),
  refl,
  omega arith,
)

pub push_joined-requires-clause-there : goal.push_joined-requires-clause-there
push_joined-requires-clause-there c = subst (λ it. c.rows.at < it) c.len-at-end.ensures c.rows-test.true

pub push_joined-requires-clause-named : goal.push_joined-requires-clause-named
push_joined-requires-clause-named c = c.requires.named

pub push_joined-requires-clause-found : goal.push_joined-requires-clause-found
push_joined-requires-clause-found c = c.requires.found

pub rows-preserved : goal.rows-preserved
rows-preserved c = (
  (let below = subst (λ it. c.rows.at < it) c.len-at-end.ensures c.rows-test.true in
      let cells = get_or c.args.so_far.now.rows c.rows.at [] in
      joins_more c.args.join.now.get.now c.args.join.now.kept.now c.args.rows.now.rows
      (gained_rows c.args.join.now.kept.now c.args.so_far.now c.args.rows.now c.rows.into)
      (gained_rows c.args.join.now.kept.now c.args.so_far.now c.args.rows.now c.push_joined.new.into) c.args.so_far.now.rows c.rows.at cells below
      (get_or_default c.args.so_far.now.rows c.rows.at [] cells below) c.rows.invariant.0 c.in_ok-more.ensures.rows),
  c.in_ok-more.ensures.arity ∙ c.rows.invariant.1,
  c.saturating_add-looked.type_inv,
)

pub returns-clause-arity : goal.returns-clause-arity
returns-clause-arity c = c.rows.invariant.1

pub returns-clause-rows : goal.returns-clause-rows
returns-clause-rows c = λ _. joins_all c.args.join.now.get.now c.args.join.now.kept.now c.args.so_far.now.rows c.args.rows.now.rows
    (gained_rows c.args.join.now.kept.now c.args.so_far.now c.args.rows.now c.rows.into) c.rows.at
    (let past = c.rows-test.false in let count = c.len-at-end.ensures in omega (arith, past, count)) c.rows.invariant.0

pub push_joined-requires-clause-arity : goal.push_joined-requires-clause-arity
push_joined-requires-clause-arity c = c.rows.invariant.1 ∙ c.requires.arity

pub returns-then-gives_up-clause-through : goal.returns-then-gives_up-clause-through
returns-then-gives_up-clause-through c = λ great.
    let past = c.gives_up.ensures c.if-gives_up.true in let held = c.rows.invariant.2 in absurd (omega (arith, great, past, held))
