use Rattle.std.proofs.Common.{◌≡◌, map}
use Rattle.esto_bench.specs.Case.{below, made_dataset}
use Rattle.esto_bench.proofs.catalogue.made_datasets.Given as goal

abbrev pub invariant-relations : goal.invariant-relations
invariant-relations l = l.datasets ≡ map made_dataset (below l.relation)
