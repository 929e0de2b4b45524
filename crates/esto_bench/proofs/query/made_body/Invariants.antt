use Rattle.std.proofs.Common.{◌≡◌, map}
use Rattle.esto_bench.specs.Case.{below, made_atom}
use Rattle.esto_bench.proofs.query.made_body.Given as goal

abbrev pub invariant-relations : goal.invariant-relations
invariant-relations l = l.body ≡ map made_atom (below l.relation)
