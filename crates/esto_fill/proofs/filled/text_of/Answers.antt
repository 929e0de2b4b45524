use Rattle.std.proofs.Common.{◌↔◌, ℕ, length, Contains, sym, subst}
use Rattle.esto_docmodel.specs.Stores.{IsShapeFor}
use Rattle.esto_docmodel.specs.declared.file.Shape.{Shape}
use Rattle.esto_docmodel.specs.Shapes.{entries_of}
use Rattle.esto_docs.specs.Files.{file_trees}
use Rattle.esto_docs.specs.Rows.{IsRowOf}
use Rattle.esto_stores.specs.Rows.{Row}
use Rattle.esto_fill.specs.Filled.{SaysRows}
use Rattle.esto_fill.proofs.FilledLemmas.{documents_say}
use Rattle.esto_fill.proofs.filled.text_of.Goals as goal

pub returns-in_ok-text-in-Documents-clause-opened : goal.returns-in_ok-text-in-Documents-clause-opened
returns-in_ok-text-in-Documents-clause-opened c =
    let view = c.args.view.now in
    let layout = c.in-Documents.layout in
    let pattern = c.in-Documents.pattern in
    let rows = c.args.rows.now in
    let text = c.in_ok-text-in-Documents.text in
    subst (λ (it : Shape). SaysRows it (length view.head) rows text) (sym c.in-Documents.is)
    (documents_say (length view.head) layout pattern rows text (subst (λ (it : Shape). IsShapeFor it view) c.in-Documents.is c.requires.fits)
    (subst (λ (n : ℕ). (row : Row) → IsRowOf n (entries_of pattern.entries) (file_trees layout text) row ↔ Contains rows row) c.len-columns.ensures
    c.in_ok-text-in-Documents.ensures.rows)
    c.in_ok-text-in-Documents.ensures.fault)
