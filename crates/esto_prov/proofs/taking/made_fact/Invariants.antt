use Rattle.std.proofs.Common.{◌≡◌, map, take}
use Rattle.esto_prov.specs.Taking.{made_of}
use Rattle.esto_prov.proofs.taking.made_fact.Given as goal

abbrev pub invariant-terms : goal.invariant-terms
invariant-terms l = l.terms ≡ map (made_of l.number l.from l.to l.values) (take l.term-index l.term-items)
