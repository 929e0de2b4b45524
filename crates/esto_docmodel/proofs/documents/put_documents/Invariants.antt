use Rattle.std.proofs.Common.{take}
use Rattle.esto_docmodel.specs.Putting.{Encodes}
use Rattle.esto_docmodel.proofs.documents.put_documents.Given as goal

-- the documents so far are encoded
abbrev pub invariant-trees : goal.invariant-trees
invariant-trees l = Encodes l.relations (take l.tree-index l.trees) l.initial.encoded l.encoded
