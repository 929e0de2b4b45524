use Rattle.std.proofs.Common.{◌≡◌, None, Some, slice_get}
use Rattle.esto_mapping.specs.declared.dataset.Dataset.{Dataset}
use Rattle.esto_term.proofs.ListLemmas.{holds_more}
use Rattle.esto_fill.specs.Files.{dataset_fault}
use Rattle.esto_fill.specs.declared.datasets.DatasetBytes.{DatasetBytes}
use Rattle.esto_fill.proofs.FileLemmas.{all_loaded, first_faulty, loaded_more}
use Rattle.esto_fill.proofs.datasets.dataset_facts.Goals as goal

pub returns-in_err-loaded : goal.returns-in_err-loaded
returns-in_err-loaded c =
    first_faulty c.args.catalogue.now.datasets c.args.files.now c.items-file-items.result.now c.items-file-items.ensures c.files.file-index
    c.file-item.result c.files-test.true c.file-item.is c.files.invariant.1 c.files.loaded _ c.from_residual.result c.from_residual.ensures.1
    c.in_err-loaded.ensures

pub files-preserved : goal.files-preserved
files-preserved c =
    let datasets = c.args.catalogue.now.datasets in
    let items = c.items-file-items.result.now in
    let file = c.file-item.result in (
      loaded_more datasets items c.files.file-index file c.files.loaded c.in_ok-loaded.loaded c.files-test.true c.file-item.is c.files.invariant.0
          c.in_ok-loaded.ensures.0,
      holds_more (λ _ (its : DatasetBytes). (dataset : Dataset) → slice_get datasets its.dataset ≡ Some dataset → dataset_fault dataset its.bytes ≡ None)
          items c.files.file-index file c.files-test.true c.file-item.is c.files.invariant.1 c.in_ok-loaded.ensures.1,
    )

pub returns : goal.returns
returns c =
    all_loaded c.args.catalogue.now.datasets c.args.files.now c.items-file-items.result.now c.files.file-index c.files.loaded c.items-file-items.ensures
    c.files-test.false c.files.invariant.0 c.files.invariant.1
