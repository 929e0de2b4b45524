use Rattle.std.proofs.Common.{◌<◌, sym, subst, ◌∙◌, arith}
use Rattle.std.proofs.lemmas.Bool.{false≢true}
use Rattle.esto_term.proofs.ListLemmas.{Contains-at, thing_at}
use Rattle.esto_rows.proofs.SameLemmas.{is_so, is_not, part_none, part_more, part_all}
use Rattle.esto_rows.proofs.same.are_marked.Goals as goal

pub rows-init : goal.rows-init
rows-init c = λ others are. part_none c.args.rows.now.rows others

pub is_marked-requires-clause-there : goal.is_marked-requires-clause-there
is_marked-requires-clause-there c = subst (λ it. c.rows.at < it) c.len-at-end.ensures c.rows-test.true

pub returns-then-not-branch : goal.returns-then-not-branch
returns-then-not-branch c = λ others are.
    let row = thing_at c.args.rows.now.rows c.rows.at (subst (λ it. c.rows.at < it) c.len-at-end.ensures c.rows-test.true) in
    is_not (λ part. false≢true (sym c.if-not-branch.true ∙ (c.in_ok-is_marked.ensures others row.0 are row.1).1
    (part row.0 (Contains-at c.args.rows.now.rows c.rows.at row.0 row.1))))

pub rows-preserved : goal.rows-preserved
rows-preserved c = λ others are.
    let row = thing_at c.args.rows.now.rows c.rows.at (subst (λ it. c.rows.at < it) c.len-at-end.ensures c.rows-test.true) in
    part_more c.args.rows.now.rows others c.rows.at row.0 row.1 ((c.in_ok-is_marked.ensures others row.0 are row.1).0 c.if-not-branch.false)
    (c.rows.invariant others are)

pub returns : goal.returns
returns c = λ others are. is_so (part_all c.args.rows.now.rows others c.rows.at
    (let past = c.rows-test.false in let count = c.len-at-end.ensures in omega (arith, past, count)) (c.rows.invariant others are))
