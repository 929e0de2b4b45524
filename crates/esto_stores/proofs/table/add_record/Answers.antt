use Rattle.std.proofs.Common.{◌∙◌, refl, sym}
use Rattle.csv.specs.Records.{fields_of}
use Rattle.esto_ports.specs.declared.file_fault.FileKind.TheVariants.{Length}
use Rattle.esto_stores.specs.Table.{cells_at}
use Rattle.esto_stores.proofs.RowLemmas.{adds_length, adds_row, adds_text}
use Rattle.esto_stores.proofs.table.add_record.Goals as goal

pub returns-then-len-width : goal.returns-then-len-width
returns-then-len-width c =
    adds_length Length c.args.width (cells_at c.args.places.now) (fields_of c.args.cells.now) c.args.rows.now c.args.rows.now _
    (λ e. c.if-len-width.true (c.len.ensures ∙ e)) (c.fault.ensures ∙ rw c.requires refl)

pub returns-in-Ok : goal.returns-in-Ok
returns-in-Ok c =
    adds_row Length c.args.width (cells_at c.args.places.now) (fields_of c.args.cells.now) c.in-Ok.row c.args.rows.now c.put_row.new.rows c.put_row.result
    (sym c.len.ensures ∙ c.if-len-width.false) c.in-Ok.ensures c.put_row.ensures

pub returns-in-Err-NotUtf8 : goal.returns-in-Err-NotUtf8
returns-in-Err-NotUtf8 c =
    adds_text Length c.args.width (cells_at c.args.places.now) (fields_of c.args.cells.now) c.args.rows.now c.args.rows.now _
    (sym c.len.ensures ∙ c.if-len-width.false) (rw c.in-Err-NotUtf8.field-0-is at c.in-Err-NotUtf8.ensures)
    (c.fault-in-Err-NotUtf8.ensures ∙ rw c.requires refl)
