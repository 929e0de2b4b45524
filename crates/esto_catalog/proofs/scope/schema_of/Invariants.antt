use Rattle.std.proofs.Common.{◌≡◌, take}
use Rattle.esto_mapping.specs.Datasets.{schema_of}
use Rattle.esto_catalog.proofs.scope.schema_of.Given as goal

abbrev pub invariant-datasets : goal.invariant-datasets
invariant-datasets l = l.schema ≡ schema_of (take l.dataset-index l.datasets)
