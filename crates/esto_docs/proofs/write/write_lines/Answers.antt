use Rattle.std.proofs.Common.{◌∙◌, ◌++◌, ap, subst, map, List}
use Rattle.std.proofs.lemmas.List.{get_or_read}
use Rattle.esto_docmodel.specs.Shapes.{entries_of}
use Rattle.esto_docs.specs.Rows.{Row}
use Rattle.esto_docs.specs.Documents.{document, document_line}
use Rattle.esto_docs.specs.Plain.{IsReadBack}
use Rattle.esto_docs.specs.Written.{HasWritten}
use Rattle.esto_docmodel.specs.declared.file.Layout.TheVariants.{Lines}
use Rattle.esto_docs.proofs.WriteLemmas.{lines_go, lines_written}
use Rattle.esto_docs.proofs.write.write_lines.Goals as goal

pub rows-preserved : goal.rows-preserved
rows-preserved c =
    let es = entries_of c.args.pattern.now.entries in
    let rows : List Row = c.items-row-items.result.now in
    let row : Row = c.row-item.result in
    lines_go es rows c.rows.row-index row c.rows.text c.put_line.new.text c.rows.invariant c.rows-test.true
    (get_or_read rows c.rows.row-index row c.rows-test.true c.row-item.is row)
    (c.in_ok-put_line.ensures.line ∙ ap (λ (r : Row). c.rows.text ++ document_line (document es r)) c.items.ensures)
    (subst (λ (r : Row). IsReadBack (document es r)) c.items.ensures c.in_ok-put_line.ensures.read)

pub returns : goal.returns
returns c =
    let es = entries_of c.args.pattern.now.entries in
    subst (λ (rows : List Row). HasWritten Lines (map (document es) rows) c.rows.text) c.items-row-items.ensures
    (lines_written c.lines_begin_anew.ensures.first es c.requires c.items-row-items.result.now c.rows.row-index c.rows.text c.rows-test.false c.rows.invariant)
