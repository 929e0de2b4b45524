use Rattle.std.proofs.Common.{◌≡◌, map}
use Rattle.esto_bench.specs.Case.{below, made_name}
use Rattle.esto_bench.proofs.query.made_names.Given as goal

abbrev pub invariant-variables : goal.invariant-variables
invariant-variables l = l.names ≡ map made_name (below l.variable)
