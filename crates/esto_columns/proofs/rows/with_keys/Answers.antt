use Rattle.std.proofs.Common.{◌<◌, map, subst, arith}
use Rattle.std.proofs.lemmas.List.{take_all}
use Rattle.esto_columns.specs.Indexed.{IsIndexOf, key_at}
use Rattle.esto_columns.proofs.rows.with_keys.Goals as goal

pub rows-init : goal.rows-init
rows-init c = c.requires

pub index_row-requires-clause-there : goal.index_row-requires-clause-there
index_row-requires-clause-there c = subst (λ it. c.rows.at < it) c.len-at-end.ensures c.rows-test.true

pub index_row-requires-clause-own : goal.index_row-requires-clause-own
index_row-requires-clause-own c = c.rows.invariant

pub rows-preserved : goal.rows-preserved
rows-preserved c = c.in_ok-index_row.ensures

pub returns : goal.returns
returns c = subst (λ them. IsIndexOf c.rows.index (map (key_at c.args.columns.now) them))
    (take_all c.rows.at c.args.table.now.rows (let past = c.rows-test.false in let count = c.len-at-end.ensures in omega (arith, past, count)))
    c.rows.invariant
