use Rattle.std.proofs.Common.{ap, arith, length, map}
use Rattle.esto_query.specs.Making.{query_of}
use Rattle.esto_data.specs.Datasets.{OneNames}
use Rattle.esto_data.proofs.DatasetLemmas.{dataset_read, needed_all, needed_more}
use Rattle.esto_data.proofs.unions.named_datasets.Goals as goal

pub datasets-preserved : goal.datasets-preserved
datasets-preserved c =
    needed_more c.args.datasets.now (OneNames (map query_of c.args.queries.now)) c.datasets.number c.dataset-item.result
    (dataset_read c.args.datasets.now c.items-dataset-items.result.now c.items-dataset-items.ensures c.datasets.number c.dataset-item.result
    c.datasets-test.true c.dataset-item.is)
    c.datasets.numbers c.add_named.new.numbers c.datasets.invariant c.in_ok-add_named.ensures

pub returns : goal.returns
returns c = needed_all c.args.datasets.now (OneNames (map query_of c.args.queries.now)) c.datasets.number c.datasets.numbers c.datasets.invariant
    (omega (arith, c.datasets-test.false, ap length c.items-dataset-items.ensures))
