use Rattle.std.proofs.Common.{Contains, not, ap, sym, subst, ◌∙◌, arith}
use Rattle.esto_term.proofs.ListLemmas.{Contains-at}
use Rattle.esto_rows.proofs.SameLemmas.{is_so, is_not, found_none, found_some, part_more, part_all}
use Rattle.esto_rows.proofs.same.are_among.Goals as goal

pub returns-then-is_none : goal.returns-then-is_none
returns-then-is_none c = is_not (λ part. found_none c.args.other.now.rows c.items.result.now c.find.result (c.find.ensures.last c.requires)
    (c.is_none.ensures ∙ ap not c.if-is_none.true)
    (part c.items.result.now (subst (Contains c.args.one.now.rows) (sym c.items.ensures)
    (Contains-at c.args.one.now.rows c.rows.at c.read_row.new.codes c.in_ok-read_row.ensures))))

pub rows-preserved : goal.rows-preserved
rows-preserved c = part_more c.args.one.now.rows c.args.other.now.rows c.rows.at c.read_row.new.codes c.in_ok-read_row.ensures
    (subst (Contains c.args.other.now.rows) c.items.ensures
    (found_some c.args.other.now.rows c.items.result.now c.find.result (c.find.ensures.last c.requires) (c.is_none.ensures ∙ ap not c.if-is_none.false)))
    c.rows.invariant

pub returns : goal.returns
returns c = is_so (part_all c.args.one.now.rows c.args.other.now.rows c.rows.at
    (let past = c.rows-test.false in let count = c.len-at-end.ensures in omega (arith, past, count)) c.rows.invariant)
