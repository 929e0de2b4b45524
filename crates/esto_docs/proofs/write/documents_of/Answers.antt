use Rattle.std.proofs.Common.{List, ap, ◌∙◌}
use Rattle.esto_docmodel.specs.Shapes.{entries_of}
use Rattle.esto_docmodel.specs.declared.pattern.Entry.{Entry}
use Rattle.esto_docs.specs.Documents.{document}
use Rattle.esto_docs.proofs.WriteLemmas.{built_more}
use Rattle.esto_docs.proofs.write.documents_of.Goals as goal

pub rows-preserved : goal.rows-preserved
rows-preserved c =
    let as_document =
    c.in_ok-document.ensures ∙ ap (λ (entries : List Entry). document (entries_of entries) c.items-in-rows.result.now) c.items.ensures
    ∙ ap (document (entries_of c.args.pattern.now.entries)) c.items-in-rows.ensures in
    built_more (entries_of c.args.pattern.now.entries) c.items-row-items.result.now c.rows.row-index c.rows.documents.items c.push.new.items.items
    c.in_ok-document.document c.row-item.result c.rows.invariant c.rows-test.true c.row-item.is as_document c.in_ok-push.ensures
