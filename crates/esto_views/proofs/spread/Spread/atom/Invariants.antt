use Rattle.std.proofs.Common.{◌≡◌, map, take}
use Rattle.esto_semantics.specs.Spreads.{substituted}
use Rattle.esto_views.proofs.spread.Spread.atom.Given as goal

abbrev pub invariant-terms : goal.invariant-terms
invariant-terms l = l.terms ≡ map (substituted l.self.from l.self.to) (take l.term-index l.atom.terms)
