use Rattle.std.proofs.Common.{◌≡◌, map, take}
use Rattle.serde_json.specs.View.{view}
use Rattle.esto_docmodel.specs.Shapes.{entries_of}
use Rattle.esto_docs.specs.Documents.{document}
use Rattle.esto_docs.proofs.write.documents_of.Given as goal

abbrev pub invariant-rows : goal.invariant-rows
invariant-rows l = map view l.documents.items ≡ map (document (entries_of l.pattern.entries)) (take l.row-index l.row-items)
