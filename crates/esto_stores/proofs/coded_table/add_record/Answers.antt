use Rattle.std.proofs.Common.{◌∙◌, sym}
use Rattle.csv.specs.Records.{fields_of}
use Rattle.esto_ports.specs.declared.file_fault.FileKind.TheVariants.{Length}
use Rattle.esto_stores.specs.Table.{cells_at}
use Rattle.esto_stores.proofs.CodedLemmas.{row_adds, row_short}
use Rattle.esto_stores.proofs.coded_table.add_record.Goals as goal

pub returns-then-len-header-clause-adds : goal.returns-then-len-header-clause-adds
returns-then-len-header-clause-adds c =
    row_short Length c.args.header.now.width (cells_at c.args.header.now.places) (fields_of c.args.cells.now) c.args.codes.now c.args.codes.now
    c.args.coded.now c.args.coded.now c.next_fault.result (λ e. c.if-len-header.true (c.len.ensures ∙ e)) c.next_fault.ensures

pub returns-clause-adds : goal.returns-clause-adds
returns-clause-adds c =
    row_adds Length c.args.header.now.width (cells_at c.args.header.now.places) (fields_of c.args.cells.now) c.args.codes.now c.code_cells-read.new.codes
    c.code_cells-read.new.row c.args.coded.now c.put_codes.new.coded c.code_cells-read.result c.put_codes.result
    (sym c.len.ensures ∙ c.if-len-header.false) (rw c.items.ensures at c.code_cells-read.ensures.coded) c.code_cells-read.ensures.grown
    (rw c.items-2.ensures at c.put_codes.ensures)
