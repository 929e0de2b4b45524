use Rattle.std.proofs.Common.{map}
use Rattle.esto_query.specs.Making.{query_of}
use Rattle.esto_data.specs.Datasets.{OneNames}
use Rattle.esto_data.proofs.DatasetLemmas.{AreNeededBelow}
use Rattle.esto_data.proofs.unions.named_datasets.Given as goal

abbrev pub invariant-datasets : goal.invariant-datasets
invariant-datasets l = AreNeededBelow l.datasets (OneNames (map query_of l.queries)) l.number l.numbers
