use Rattle.std.proofs.Common.{◌≡◌, drop}
use Rattle.esto_semantics.specs.Spreads.{substituted}
use Rattle.esto_prov.proofs.taking.first_met.Given as goal

abbrev pub invariant-places : goal.invariant-places
invariant-places l = substituted (drop l.place l.from) (drop l.place l.to) l.term ≡ substituted l.from l.to l.term
