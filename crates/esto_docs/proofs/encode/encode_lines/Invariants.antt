use Rattle.std.proofs.Common.{List, length}
use Rattle.esto_docmodel.specs.Putting.{PutsDocuments}
use Rattle.esto_docmodel.specs.declared.tree.Tree.{Tree}
use Rattle.esto_docs.proofs.LineLemmas.{HasGone}
use Rattle.esto_docs.proofs.encode.encode_lines.Given as goal

-- the documents of the lines that are left behind are put
abbrev pub invariant-lines : goal.invariant-lines
invariant-lines g l =
    (trees : List Tree) × HasGone l.fn.bytes l.rest trees l.number
    × PutsDocuments g.S.FactSink.Holds g.S.FactSink.arities l.relations trees l.first l.next l.initial.sink l.sink

abbrev pub decreases-lines : goal.decreases-lines
decreases-lines g l = length l.rest
