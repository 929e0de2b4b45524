use Rattle.std.proofs.Common.{◌∙◌, List, ap, subst}
use Rattle.std.proofs.lemmas.Result.{IfOk-weaker}
use Rattle.serde_json.specs.Written.{compact_text}
use Rattle.esto_docmodel.specs.Shapes.{entries_of}
use Rattle.esto_docmodel.specs.declared.pattern.Entry.{Entry}
use Rattle.esto_docs.specs.Documents.{document}
use Rattle.esto_docs.specs.Plain.{IsReadBack}
use Rattle.esto_docs.proofs.write.row_text.Goals as goal

pub returns-clause-text : goal.returns-clause-text
returns-clause-text c =
    let as_document = c.in_ok-document.ensures ∙ ap (λ (entries : List Entry). document (entries_of entries) c.args.row.now) c.items.ensures in
    IfOk-weaker c.document_text.result _ _ (λ text is. is ∙ ap compact_text as_document) c.document_text.ensures.text

pub returns-clause-read : goal.returns-clause-read
returns-clause-read c =
    let as_document = c.in_ok-document.ensures ∙ ap (λ (entries : List Entry). document (entries_of entries) c.args.row.now) c.items.ensures in
    IfOk-weaker c.document_text.result _ _ (λ _ read. subst IsReadBack as_document read) c.document_text.ensures.read
