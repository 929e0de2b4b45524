use Rattle.std.proofs.Common.{subst, sym}
use Rattle.esto_docmodel.specs.Shapes.{entries_of}
use Rattle.esto_docs.specs.Files.{file_trees, trees_fault}
use Rattle.esto_docs.specs.Rows.{IsRowOf, GivesRows}
use Rattle.esto_docmodel.specs.declared.file.Layout.{Layout}
use Rattle.esto_docs.proofs.rows.open_documents.Goals as goal

pub returns-in-Array : goal.returns-in-Array
returns-in-Array c =
    let es = entries_of c.args.pattern.now.entries in
    let bytes = c.args.bytes.now in
    subst (λ (l : Layout). GivesRows (IsRowOf c.args.columns es (file_trees l bytes)) (trees_fault l bytes) c.open_array.result) (sym c.in-Array.is)
    c.open_array.ensures

pub returns-in-Lines : goal.returns-in-Lines
returns-in-Lines c =
    let es = entries_of c.args.pattern.now.entries in
    let bytes = c.args.bytes.now in
    subst (λ (l : Layout). GivesRows (IsRowOf c.args.columns es (file_trees l bytes)) (trees_fault l bytes) c.open_lines.result) (sym c.in-Lines.is)
    c.open_lines.ensures
