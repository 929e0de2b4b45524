use Rattle.esto_docmodel.specs.Shapes.{entries_of}
use Rattle.esto_docs.proofs.WriteLemmas.{HasLines}
use Rattle.esto_docs.proofs.write.write_lines.Given as goal

abbrev pub invariant-rows : goal.invariant-rows
invariant-rows l = HasLines (entries_of l.pattern.entries) l.row-items l.row-index l.text
