use Rattle.std.proofs.Common.{◌∙◌, ℕ, ap, arith}
use Rattle.esto_columns.specs.Columns.{pushed}
use Rattle.esto_columns.proofs.RowLemmas.{push_turn}
use Rattle.esto_columns.proofs.table.push_codes.Goals as goal

pub codes-preserved : goal.codes-preserved
codes-preserved c =
    push_turn c.codes.at c.args.columns.now.items c.codes.columns.items c.args.row.now c.index_mut-column.result.now c.push.new.self c.codes.invariant
    c.codes-test.true c.requires
    c.index_mut-column.ensures.value c.in_ok-push.ensures.ok

pub returns-clause-ok : goal.returns-clause-ok
returns-clause-ok c =
    let past = c.codes-test.false in
    let within = c.codes.auto.at-end in
    c.codes.invariant ∙ ap (λ (count : ℕ). pushed count c.args.columns.now.items c.args.row.now) (omega (arith, past, within))
