use Rattle.esto_acyclic.proofs.RankLemmas.{RaisedSoFar}
use Rattle.esto_acyclic.proofs.graph.raise.Given as goal

abbrev pub invariant-edges : goal.invariant-edges
invariant-edges l = RaisedSoFar l.edges l.fn.ranks.items l.ranks.items l.rose l.edge-index
