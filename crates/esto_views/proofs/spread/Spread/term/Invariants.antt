use Rattle.std.proofs.Common.{◌≡◌, drop}
use Rattle.esto_semantics.specs.Spreads.{substituted}
use Rattle.esto_views.proofs.spread.Spread.term.Given as goal

abbrev pub invariant-places : goal.invariant-places
invariant-places l = substituted (drop l.place l.self.from) (drop l.place l.self.to) l.term ≡ substituted l.self.from l.self.to l.term
