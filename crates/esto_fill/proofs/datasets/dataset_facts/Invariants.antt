use Rattle.std.proofs.Common.{◌≡◌, None, Some, slice_get, take}
use Rattle.esto_mapping.specs.declared.dataset.Dataset.{Dataset}
use Rattle.esto_fill.specs.Files.{IsLoadedFrom, dataset_fault}
use Rattle.esto_fill.specs.declared.datasets.DatasetBytes.{DatasetBytes}
use Rattle.esto_fill.specs.declared.wanted.Wanted.TheVariants.{Every}
use Rattle.esto_term.proofs.ListLemmas.{HoldsBelow}
use Rattle.esto_fill.proofs.datasets.dataset_facts.Given as goal

-- the facts are those of the files so far, none of which has a fault
abbrev pub invariant-files : goal.invariant-files
invariant-files l =
    IsLoadedFrom l.catalogue.datasets Every (take l.file-index l.file-items) l.loaded
    × HoldsBelow (λ _ (file : DatasetBytes). (dataset : Dataset) → slice_get l.catalogue.datasets file.dataset ≡ Some dataset
    → dataset_fault dataset file.bytes ≡ None) l.file-items l.file-index
