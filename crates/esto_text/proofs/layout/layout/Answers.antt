use Rattle.std.proofs.Common.{length, true-eqb, false-eqb}
use Rattle.std.proofs.lemmas.Result.{err_from_is_err_and}
use Rattle.esto_text.specs.View.{entries_of}
use Rattle.esto_text.proofs.LayoutLemmas.{no_layout, group_fails, more_fails, layout_is}
use Rattle.esto_text.proofs.layout.layout.Goals as goal

pub returns-in_err-rest-clause-err : goal.returns-in_err-rest-clause-err
returns-in_err-rest-clause-err c =
    let p = err_from_is_err_and c.from_residual.result c.from_residual.ensures.1 in
    rw (p.1, p.2) (no_layout c.args.tokens.now _ c.in_err-rest.ensures.err)

pub returns-in_err-entries-clause-err : goal.returns-in_err-entries-clause-err
returns-in_err-entries-clause-err c =
    let p = err_from_is_err_and c.from_residual-in_err-entries.result c.from_residual-in_err-entries.ensures.1 in
    rw (p.1, p.2) (group_fails c.args.tokens.now c.in_ok-rest.rest.now c.in_ok-rest.field-0-0 c.in_ok-rest.ensures.ok _ c.in_err-entries.ensures.err)

pub returns-then-not-is_empty-clause-err : goal.returns-then-not-is_empty-clause-err
returns-then-not-is_empty-clause-err c =
    more_fails c.args.tokens.now c.in_ok-rest.rest.now c.in_ok-rest.field-0-0 c.in_ok-rest.ensures.ok (entries_of c.in_ok-entries.entries)
    c.in_ok-entries.rest.now c.in_ok-entries.ensures.ok (false-eqb _ 0 c.if-not-is_empty.ensures)

pub returns-clause-ok : goal.returns-clause-ok
returns-clause-ok c =
    layout_is c.args.tokens.now c.in_ok-rest.rest.now c.in_ok-rest.field-0-0 c.in_ok-rest.ensures.ok (entries_of c.in_ok-entries.entries)
    c.in_ok-entries.rest.now c.in_ok-entries.ensures.ok (true-eqb (length c.in_ok-entries.rest.now) 0 c.if-not-is_empty.ensures)
