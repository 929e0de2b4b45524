use Rattle.std.proofs.Common.{◌≡◌, ◌<◌, ◌≤◌, get_or, refl, subst}
use Rattle.esto_term.proofs.ListLemmas.{each_seen}
use Rattle.esto_coded.proofs.MeetLemmas.{agree_more, agree_not}
use Rattle.esto_coded.proofs.judging.agree.Goals as goal

pub rows-preserved : goal.rows-preserved
rows-preserved c = agree_more c.args.rows.now.rows c.column-left.result.now c.column-right.result.now c.column-left.ensures c.column-right.ensures c.rows.at
    c.item.result c.item-in-rows.result (subst (λ it. c.rows.at < it) c.len-at-end.ensures c.rows-test.true) c.item.ensures c.item-in-rows.ensures
    c.if-item.false c.rows.invariant

pub returns-then-item : goal.returns-then-item
returns-then-item c = agree_not c.args.rows.now.rows c.column-left.result.now c.column-right.result.now c.column-left.ensures c.column-right.ensures
    c.rows.at c.item.result c.item-in-rows.result (subst (λ it. c.rows.at < it) c.len-at-end.ensures c.rows-test.true) c.item.ensures c.item-in-rows.ensures
    c.if-item.true

pub returns : goal.returns
returns c = (
  λ _. each_seen (λ row. get_or row 0 0 ≡ get_or row 1 0) c.args.rows.now.rows c.rows.at
      (subst (λ it. it ≤ c.rows.at) c.len-at-end.ensures c.rows-test.false) c.rows.invariant,
  λ _. refl,
)
