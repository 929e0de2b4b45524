use Rattle.std.proofs.Common.{take}
use Rattle.esto_fill.specs.Nodes.{CoverNodes}
use Rattle.esto_fill.proofs.nodes.node_columns.Given as goal

-- each column in which one of the facts so far has another term than a constant is there
abbrev pub invariant-facts : goal.invariant-facts
invariant-facts l = CoverNodes (take l.fact-index l.facts) l.columns
