use Rattle.std.proofs.Common.{◌∙◌, map, sym, ap}
use Rattle.std.proofs.lemmas.Result.{IfOk-weaker}
use Rattle.esto_docmodel.specs.Shapes.{entries_of}
use Rattle.esto_docmodel.specs.declared.file.Layout.{Layout}
use Rattle.esto_docs.specs.Documents.{document, documents_text}
use Rattle.esto_docs.specs.Files.{trees_fault}
use Rattle.esto_docs.proofs.PlainLemmas.{documents_are_plain}
use Rattle.esto_docs.proofs.WriteLemmas.{opened_again}
use Rattle.esto_docs.proofs.write.write_documents.Goals as goal

pub write_array-requires : goal.write_array-requires
write_array-requires c = documents_are_plain c.args.columns (entries_of c.args.pattern.now.entries) c.requires.layout

pub write_lines-requires : goal.write_lines-requires
write_lines-requires c = documents_are_plain c.args.columns (entries_of c.args.pattern.now.entries) c.requires.layout

pub returns-in-Array-clause-text : goal.returns-in-Array-clause-text
returns-in-Array-clause-text c =
    let written = map (document (entries_of c.args.pattern.now.entries)) c.args.rows.now in
    IfOk-weaker c.write_array.result _ _ (λ text has. has.written ∙ ap (λ (l : Layout). documents_text l written) (sym c.in-Array.is)) c.write_array.ensures

pub returns-in-Array-clause-rows : goal.returns-in-Array-clause-rows
returns-in-Array-clause-rows c =
    IfOk-weaker c.write_array.result _ _ (λ text. opened_again c.args.columns (entries_of c.args.pattern.now.entries) c.args.rows.now c.args.layout.now _ text
    c.requires.layout c.requires.lengths c.in-Array.is) c.write_array.ensures

pub returns-in-Array-clause-fault : goal.returns-in-Array-clause-fault
returns-in-Array-clause-fault c =
    IfOk-weaker c.write_array.result _ _ (λ text has. ap (λ (l : Layout). trees_fault l text) c.in-Array.is ∙ has.no_fault) c.write_array.ensures

pub returns-in-Lines-clause-text : goal.returns-in-Lines-clause-text
returns-in-Lines-clause-text c =
    let written = map (document (entries_of c.args.pattern.now.entries)) c.args.rows.now in
    IfOk-weaker c.write_lines.result _ _ (λ text has. has.written ∙ ap (λ (l : Layout). documents_text l written) (sym c.in-Lines.is)) c.write_lines.ensures

pub returns-in-Lines-clause-rows : goal.returns-in-Lines-clause-rows
returns-in-Lines-clause-rows c =
    IfOk-weaker c.write_lines.result _ _ (λ text. opened_again c.args.columns (entries_of c.args.pattern.now.entries) c.args.rows.now c.args.layout.now _ text
    c.requires.layout c.requires.lengths c.in-Lines.is) c.write_lines.ensures

pub returns-in-Lines-clause-fault : goal.returns-in-Lines-clause-fault
returns-in-Lines-clause-fault c =
    IfOk-weaker c.write_lines.result _ _ (λ text has. ap (λ (l : Layout). trees_fault l text) c.in-Lines.is ∙ has.no_fault) c.write_lines.ensures
