use Rattle.std.proofs.Common.{arith, ◌≤◌, length, refl}
use Rattle.esto_course.proofs.Steps.{at_exit, each_goes, leads_itself}
use Rattle.esto_catalog.specs.Datasets.{adds_dataset, reads_datasets}
use Rattle.esto_catalog.proofs.DatasetLemmas.{base_more, count_most, dataset_turn, dataset_fails, read_all}
use Rattle.esto_catalog.proofs.dataset.read_datasets.Goals as goal

pub entries-init : goal.entries-init
entries-init c = record {
  leads = rw c.new-datasets.ensures (leads_itself _);
  base = rw c.new-datasets.ensures refl;
  most = omega arith;
}

pub entries-preserved : goal.entries-preserved
entries-preserved c =
    let count = c.relation_count-base.ensures in
    let most = count_most c.in_ok-dataset.dataset.model in
    record {
      leads =
          rw c.in_ok-push.ensures.ok
          (dataset_turn c.args.entries.now (reads_datasets c.args.entries.now) c.entries.index c.entries.datasets c.entries.invariant.leads
          c.index-entries-index.result c.entries-test.true c.index-entries-index.is _ c.entry-place.ensures _ _ c.items-earlier.ensures c.items-fields.ensures
          c.in_ok-dataset.dataset c.in_ok-dataset.ensures);
      base = rw c.in_ok-push.ensures.ok (base_more c.entries.datasets c.in_ok-dataset.dataset c.entries.base _ c.entries.invariant.base count);
      most = omega (arith, c.entries.invariant.most, count, most);
    }

pub returns-in_err-dataset-clause-datasets : goal.returns-in_err-dataset-clause-datasets
returns-in_err-dataset-clause-datasets c =
    at_exit _ _ _ c.from_residual.ensures.1
    (dataset_fails c.args.entries.now (reads_datasets c.args.entries.now) c.entries.index c.entries.datasets c.entries.invariant.leads
    c.index-entries-index.result c.entries-test.true c.index-entries-index.is _ c.entry-place.ensures _ _ c.items-earlier.ensures c.items-fields.ensures _
    c.in_err-dataset.ensures)

pub returns-clause-datasets : goal.returns-clause-datasets
returns-clause-datasets c =
    let le : length c.args.entries.now ≤ c.entries.index = omega arith in
    each_goes adds_dataset c.args.entries.now (reads_datasets c.args.entries.now) _ c.entries.index c.entries.datasets c.entries.invariant.leads le

pub returns-clause-sound : goal.returns-clause-sound
returns-clause-sound c =
    let le : length c.args.entries.now ≤ c.entries.index = omega arith in
    read_all c.args.entries.now c.entries.datasets c.requires (each_goes adds_dataset c.args.entries.now
    (reads_datasets c.args.entries.now) _ c.entries.index c.entries.datasets c.entries.invariant.leads le)
