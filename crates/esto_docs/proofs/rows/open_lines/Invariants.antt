use Rattle.std.proofs.Common.{List, length}
use Rattle.esto_docmodel.specs.Shapes.{entries_of}
use Rattle.esto_docmodel.specs.declared.tree.Tree.{Tree}
use Rattle.esto_docs.proofs.LineLemmas.{HasGone}
use Rattle.esto_docs.proofs.RowLemmas.{HasRows}
use Rattle.esto_docs.proofs.rows.open_lines.Given as goal

abbrev pub invariant-lines : goal.invariant-lines
invariant-lines l = (trees : List Tree) × HasGone l.fn.bytes l.rest trees l.number × HasRows l.columns (entries_of l.pattern.entries) trees l.rows

abbrev pub decreases-lines : goal.decreases-lines
decreases-lines l = length l.rest
