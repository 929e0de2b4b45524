use Rattle.std.proofs.Common.{◌≡◌, map, take}
use Rattle.esto_semantics.specs.Valuations.{map_of}
use Rattle.esto_chase.proofs.making.values_of.Given as goal

abbrev pub invariant-terms : goal.invariant-terms
invariant-terms l = l.values ≡ map (map_of l.valuation) (take l.term-index l.terms)
