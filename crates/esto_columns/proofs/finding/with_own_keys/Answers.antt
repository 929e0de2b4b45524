use Rattle.std.proofs.Common.{◌<◌, subst, arith}
use Rattle.std.proofs.lemmas.List.{take_all}
use Rattle.esto_columns.specs.Indexed.{IsIndexOf}
use Rattle.esto_columns.proofs.finding.with_own_keys.Goals as goal

pub rows-init : goal.rows-init
rows-init c = c.requires

pub index_own-requires-clause-there : goal.index_own-requires-clause-there
index_own-requires-clause-there c = subst (λ it. c.rows.at < it) c.len-at-end.ensures c.rows-test.true

pub index_own-requires-clause-own : goal.index_own-requires-clause-own
index_own-requires-clause-own c = c.rows.invariant

pub rows-preserved : goal.rows-preserved
rows-preserved c = c.in_ok-index_own.ensures

pub returns : goal.returns
returns c = subst (IsIndexOf c.rows.index)
    (take_all c.rows.at c.args.rows.now.rows (let past = c.rows-test.false in let count = c.len-at-end.ensures in omega (arith, past, count)))
    c.rows.invariant
