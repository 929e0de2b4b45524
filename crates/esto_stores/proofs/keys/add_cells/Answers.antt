use Rattle.std.proofs.Common.{◌∙◌, refl, sym, map}
use Rattle.std.proofs.lemmas.List.{length-map}
use Rattle.esto_ports.specs.declared.file_fault.FileKind.TheVariants.{Cells}
use Rattle.esto_stores.proofs.RowLemmas.{adds_length, adds_row, adds_text}
use Rattle.esto_stores.proofs.keys.add_cells.Goals as goal

pub returns-then-found-cells : goal.returns-then-found-cells
returns-then-found-cells c =
    adds_length Cells c.args.cells (λ cells. cells) (map (λ cell. cell.now) c.args.found.now) c.args.rows.now c.args.rows.now _
    (λ e. c.if-found-cells.true (sym (length-map c.args.found.now (λ cell. cell.now)) ∙ e)) (c.fault.ensures ∙ rw c.requires refl)

pub returns-in-Ok : goal.returns-in-Ok
returns-in-Ok c =
    adds_row Cells c.args.cells (λ cells. cells) (map (λ cell. cell.now) c.args.found.now) c.in-Ok.row c.args.rows.now c.put_row.new.rows c.put_row.result
    (length-map c.args.found.now (λ cell. cell.now) ∙ c.if-found-cells.false) c.in-Ok.ensures c.put_row.ensures

pub returns-in-Err-NotUtf8 : goal.returns-in-Err-NotUtf8
returns-in-Err-NotUtf8 c =
    adds_text Cells c.args.cells (λ cells. cells) (map (λ cell. cell.now) c.args.found.now) c.args.rows.now c.args.rows.now _
    (length-map c.args.found.now (λ cell. cell.now) ∙ c.if-found-cells.false) (rw c.in-Err-NotUtf8.field-0-is at c.in-Err-NotUtf8.ensures)
    (c.fault-in-Err-NotUtf8.ensures ∙ rw c.requires refl)
