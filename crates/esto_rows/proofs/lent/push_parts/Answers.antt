use Rattle.esto_rows.proofs.LentLemmas.{parts_more, parts_end}
use Rattle.esto_rows.proofs.lent.push_parts.Goals as goal

pub rows-preserved : goal.rows-preserved
rows-preserved c =
    parts_more (λ row. row.now) (λ text. text.now) c.args.arity c.args.count c.rows._row c.rows.rows.items c.push.new.self.items c.before-in-rows.result
    c.rows.rest.now c.after-rest.result.now _ c.rows-test.true c.in-Ok.ensures.items c.before-in-rows.ensures c.after-rest.ensures c.rows.invariant

pub returns : goal.returns
returns c =
    parts_end (λ row. row.now) (λ text. text.now) c.args.arity c.args.count c.rows._row c.rows.rows.items c.rows.rest.now _ c.rows-test.false
    c.rows.invariant
