use Rattle.std.proofs.Common.{◌<◌, [], ◌++◌, get_or, refl, sym, subst, ◌∙◌, arith}
use Rattle.std.proofs.lemmas.Bool.{false≢true}
use Rattle.std.proofs.lemmas.Option.{slice_get-get_or}
use Rattle.std.proofs.lemmas.Result.{on_ok_weaker}
use Rattle.esto_steps.specs.Paired.{kept_of, gained_rows}
use Rattle.esto_steps.proofs.PairLemmas.{kept_named}
use Rattle.esto_steps.proofs.JoinLemmas.{follower_kept, gains_past, gains_unless}
use Rattle.esto_steps.proofs.join.push_follower.Goals as goal

pub returns-then-pair-len-clause-rows : goal.returns-then-pair-len-clause-rows
returns-then-pair-len-clause-rows c =
    gains_past c.args.join.now.get.now c.args.join.now.kept.now (get_or c.args.so_far.now.rows c.args.pair.left []) c.args.rows.now.rows
    (gained_rows c.args.join.now.kept.now c.args.so_far.now c.args.rows.now c.args.into.now) c.args.pair.right
    (let past = c.if-pair-len.true in let count = c.len.ensures in omega (arith, past, count))

pub returns-then-not-follows-clause-rows : goal.returns-then-not-follows-clause-rows
returns-then-not-follows-clause-rows c =
    gains_unless c.args.join.now.get.now c.args.join.now.kept.now (get_or c.args.so_far.now.rows c.args.pair.left []) c.args.rows.now.rows
    (gained_rows c.args.join.now.kept.now c.args.so_far.now c.args.rows.now c.args.into.now) c.args.pair.right
    (get_or c.args.rows.now.rows c.args.pair.right [])
    (slice_get-get_or c.args.rows.now.rows c.args.pair.right [] (subst (λ it. c.args.pair.right < it) c.len.ensures c.if-pair-len.false))
    (λ follows. false≢true (sym c.if-not-follows.true ∙ c.follows.ensures.1 follows))

pub returns-clause-rows : goal.returns-clause-rows
returns-clause-rows c =
    let cells = get_or c.args.so_far.now.rows c.args.pair.left [] in
    let row = get_or c.args.rows.now.rows c.args.pair.right [] in
    let within = subst (λ it. c.args.pair.right < it) c.len.ensures c.if-pair-len.false in
    on_ok_weaker c.put_unseen.result
    (follower_kept c.args.join.now.get.now c.args.join.now.kept.now cells c.args.rows.now.rows
    (gained_rows c.args.join.now.kept.now c.args.so_far.now c.args.rows.now c.args.into.now)
    (gained_rows c.args.join.now.kept.now c.args.so_far.now c.args.rows.now c.put_unseen.new.into) c.args.pair.right row (cells ++ row)
    (kept_of c.args.join.now.kept.now c.args.so_far.now c.args.rows.now c.args.pair)
    (slice_get-get_or c.args.rows.now.rows c.args.pair.right [] within) (c.follows.ensures.0 c.if-not-follows.false) refl
    (kept_named c.args.join.now.kept.now c.args.so_far.now c.args.rows.now c.args.pair c.requires.named c.arity-width.ensures.fits c.requires.there within))
    c.put_unseen.ensures.rows
