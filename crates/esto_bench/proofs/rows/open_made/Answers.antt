use Rattle.std.proofs.Common.{arith, ap, ◌∙◌}
use Rattle.esto_stores.specs.Table.{table_rows, table_fault}
use Rattle.esto_bench.specs.Case.{made_columns}
use Rattle.esto_bench.proofs.RunLemmas.{fragments_long, no_fault, opened_more}
use Rattle.esto_bench.proofs.rows.open_made.Goals as goal

pub open_fragment-requires-clause-there : goal.open_fragment-requires-clause-there
open_fragment-requires-clause-there c =
    let long = fragments_long c.args.size c.args.catalogue.now c.requires.made in
    let there = c.requires.there in
    omega (arith, long, there)

pub returns-in-Ok : goal.returns-in-Ok
returns-in-Ok c =
    opened_more c.args.size c.args.catalogue.now c.requires.made c.args.number c.bytes.result.now c.args.opened.now c.open_fragment.new.opened
    (c.bytes.ensures ∙ c.in_ok-content.ensures.text) (ap (table_rows made_columns) c.bytes.ensures ∙ c.in_ok-content.ensures.rows)
    c.requires.opened c.in-Ok.ensures.rows c.in-Ok.ensures.opened

pub unreachable-requires : goal.unreachable-requires
unreachable-requires c =
    no_fault c.args.size c.args.catalogue.now c.requires.made c.args.number c.requires.there c.bytes.result.now c.in-Err-Fault.field-0-0
    (ap (table_fault made_columns) c.bytes.ensures ∙ c.in_ok-content.ensures.fault) c.in-Err-Fault.field-0 c.in-Err-Fault.field-0-is
    c.in-Err-Fault.ensures.fault
