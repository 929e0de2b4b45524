use Rattle.std.proofs.Common.{◌≡◌, ◌≤◌, ◌*◌, suc, drop, length}
use Rattle.esto_course.proofs.Steps.{Leads}
use Rattle.esto_course.specs.Course.{each}
use Rattle.esto_catalog.specs.Datasets.{adds_dataset, reads_datasets}
use Rattle.esto_mapping.specs.Datasets.{schema_of}
use Rattle.esto_catalog.proofs.dataset.read_datasets.Given as goal

abbrev pub invariant-entries : goal.invariant-entries
invariant-entries l = record {
  leads : Leads (each adds_dataset (suc l.index) l.datasets (drop l.index l.entries)) (reads_datasets l.entries);
  base : l.base ≡ length (schema_of l.datasets);
  most : l.base ≤ 5 * l.index;
}
