use Rattle.std.proofs.Common.{◌∙◌, ◌==◌, sym}
use Rattle.std.specs.List.{slice_split}
use Rattle.esto_ports.specs.declared.file_fault.FileKind.TheVariants.{Cells}
use Rattle.esto_stores.specs.Keys.{tab}
use Rattle.esto_stores.proofs.CodedLemmas.{row_adds, row_short}
use Rattle.esto_stores.proofs.coded_keys.add_line.Goals as goal

pub returns-then-count_cells-arity-clause-adds : goal.returns-then-count_cells-arity-clause-adds
returns-then-count_cells-arity-clause-adds c =
    row_short Cells c.args.coded.now.arity (λ cells. cells) (slice_split (λ b. b == tab) c.args.line.now) c.args.codes.now c.args.codes.now
    c.args.coded.now c.args.coded.now c.next_fault.result
    (λ e. c.if-count_cells-arity.true (c.count_cells.ensures ∙ e ∙ sym c.arity.ensures.value)) c.next_fault.ensures

pub returns-clause-adds : goal.returns-clause-adds
returns-clause-adds c =
    row_adds Cells c.args.coded.now.arity (λ cells. cells) (slice_split (λ b. b == tab) c.args.line.now) c.args.codes.now c.code_line-read.new.codes
    c.code_line-read.new.row c.args.coded.now c.put_codes.new.coded c.code_line-read.result c.put_codes.result
    (sym c.count_cells.ensures ∙ c.if-count_cells-arity.false ∙ c.arity.ensures.value) c.code_line-read.ensures.coded c.code_line-read.ensures.grown
    (rw c.items.ensures at c.put_codes.ensures)
