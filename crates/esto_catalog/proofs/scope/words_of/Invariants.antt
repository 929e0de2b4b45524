use Rattle.std.proofs.Common.{◌≡◌, take}
use Rattle.esto_mapping.specs.Datasets.{words_of}
use Rattle.esto_catalog.proofs.scope.words_of.Given as goal

abbrev pub invariant-datasets : goal.invariant-datasets
invariant-datasets l = l.words ≡ words_of (take l.dataset-index l.datasets)
