-- That the files of datasets have facts, or a first fault.
use Rattle.std.specs.Prelude.{ℕ, ◌<◌, ◌⊎◌, List, All, length, Ok, Err}
use Rattle.esto_mapping.specs.declared.dataset.Dataset.{Dataset}
use Rattle.esto_fill.specs.Files.{LoadsFacts}
use Rattle.esto_fill.specs.declared.datasets.DatasetBytes.{DatasetBytes}
use Rattle.esto_fill.specs.declared.datasets.LoadError.TheVariants.{Fault}
use Rattle.esto_fill.specs.declared.loaded.Loaded.{Loaded}
use Rattle.esto_ports.specs.declared.file_fault.FileFault.{FileFault}

-- The files of some of the datasets, whatever their bytes are, have facts, or one of them is the first that has a fault.
abbrev pub FactsAreTotal : Type 0
FactsAreTotal =
    (datasets : List Dataset) (files : List DatasetBytes) → All (λ file. file.dataset < length datasets) files
    → ((loaded : Loaded) × LoadsFacts datasets files (Ok loaded))
    ⊎ ((number : ℕ) × (fault : FileFault) × LoadsFacts datasets files (Err (Fault number fault)))
