use Rattle.std.proofs.Common.{◌∙◌, subst, ap}
use Rattle.esto_ports.specs.declared.file_fault.FileKind.TheVariants.{Cells}
use Rattle.esto_stores.specs.Rows.{Row, AddsTexts}
use Rattle.esto_stores.proofs.RowLemmas.{lent}
use Rattle.esto_stores.proofs.keys.add_line.Goals as goal

pub returns : goal.returns
returns c =
    subst (λ (found : Row). AddsTexts Cells c.args.cells (λ cells. cells) found c.args.rows.now c.add_cells.new.rows c.add_cells.result)
    (ap lent c.as_slice.ensures.value ∙ c.in_ok-parts.ensures) c.add_cells.ensures
