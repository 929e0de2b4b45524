use Rattle.esto_data.specs.Datasets.{IsAny}
use Rattle.esto_data.proofs.DatasetLemmas.{AreNeededBelow}
use Rattle.esto_data.proofs.kept.all_datasets.Given as goal

abbrev pub invariant-datasets : goal.invariant-datasets
invariant-datasets l = AreNeededBelow l.datasets IsAny l.number l.numbers
