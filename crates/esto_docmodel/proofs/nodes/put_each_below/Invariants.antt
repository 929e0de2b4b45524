use Rattle.std.proofs.Common.{map, drop}
use Rattle.esto_docmodel.specs.DocumentFacts.{flat}
use Rattle.esto_docmodel.specs.Encodings.{belows}
use Rattle.esto_docmodel.specs.Putting.{turned}
use Rattle.esto_docmodel.proofs.GainLemmas.{Leads}
use Rattle.esto_docmodel.proofs.nodes.put_each_below.Given as goal

-- the facts of the nodes above that are left lead to all of them
abbrev pub invariant-above : goal.invariant-above
invariant-above g l = Leads g.S.FactSink.Holds g.S.FactSink.arities (map (flat l.base) (belows (turned (drop l.ancestor-index l.above)) l.number))
    (map (flat l.base) (belows (turned l.above) l.number)) l.initial.sink l.sink
