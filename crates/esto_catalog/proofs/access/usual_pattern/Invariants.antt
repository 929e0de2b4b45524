use Rattle.std.proofs.Common.{◌≡◌}
use Rattle.esto_catalog.specs.Access.{usual_pattern}
use Rattle.esto_catalog.proofs.access.usual_pattern.Given as goal

abbrev pub invariant-columns : goal.invariant-columns
invariant-columns l = l.pattern ≡ usual_pattern l.model l.column
