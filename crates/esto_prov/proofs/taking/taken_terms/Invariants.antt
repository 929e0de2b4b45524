use Rattle.std.proofs.Common.{◌≡◌, map, take}
use Rattle.esto_chase_laws.specs.WorldMatches.{taken}
use Rattle.esto_prov.proofs.taking.taken_terms.Given as goal

abbrev pub invariant-terms : goal.invariant-terms
invariant-terms l = l.taken ≡ map (taken l.from l.to) (take l.term-index l.terms)
