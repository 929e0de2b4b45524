use Rattle.esto_data.specs.Datasets.{Names}
use Rattle.esto_data.proofs.DatasetLemmas.{AreNeededBelow}
use Rattle.esto_data.proofs.datasets.named_datasets.Given as goal

abbrev pub invariant-datasets : goal.invariant-datasets
invariant-datasets l = AreNeededBelow l.datasets (Names l.body) l.number l.numbers
