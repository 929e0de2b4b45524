use Rattle.std.proofs.Common.{◌≡◌, map}
use Rattle.esto_bench.specs.Case.{below, made_row}
use Rattle.esto_bench.proofs.rows.made_rows.Given as goal

abbrev pub invariant-places : goal.invariant-places
invariant-places l = l.rows ≡ map (made_row l.relation) (below l.place)
