use Rattle.std.proofs.Common.{◌≡◌, map}
use Rattle.esto_bench.specs.Case.{below, made_relation}
use Rattle.esto_bench.proofs.catalogue.made_schema.Given as goal

abbrev pub invariant-relations : goal.invariant-relations
invariant-relations l = l.schema ≡ map made_relation (below l.relation)
