use Rattle.std.proofs.Common.{◌≡◌, drop}
use Rattle.esto_views.specs.Names.{has_number}
use Rattle.esto_views.proofs.naming.is_met.Given as goal

abbrev pub invariant-numbers : goal.invariant-numbers
invariant-numbers l = has_number l.met l.number ≡ has_number (drop l.other-index l.met) l.number
