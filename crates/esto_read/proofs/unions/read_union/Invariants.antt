use Rattle.std.proofs.Common.{drop, map}
use Rattle.esto_query.specs.Schemas.{arities_of}
use Rattle.esto_text.specs.View.{tree_of}
use Rattle.esto_read.proofs.UnionLemmas.{SaidSoFar}
use Rattle.esto_read.proofs.unions.read_union.Given as goal

abbrev pub invariant-trees : goal.invariant-trees
invariant-trees l = SaidSoFar l.count l.words (arities_of l.schema) l.bytes (map tree_of l.tree-items) (drop l.tree-index (map tree_of l.tree-items)) l.queries
