use Rattle.std.proofs.Common.{◌≡◌}
use Rattle.esto_columns.proofs.stored.index_ways.Given as goal

abbrev pub invariant-ways : goal.invariant-ways
invariant-ways l = l.rows ≡ l.initial.rows
