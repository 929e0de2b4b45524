-- The facts of datasets' files, or the first fault of one.
use Rattle.std.specs.Prelude.{◌≡◌, ◌≢◌, ℕ, ◌+◌, ◌<◌, List, [], ◌∷◌, ◌++◌, slice_get, AllPairs, Contains, Option, Some, None, Result, Ok, Err}
use Rattle.esto_mapping.specs.Datasets.{relation_count}
use Rattle.esto_mapping.specs.declared.dataset.Dataset.{Dataset}
use Rattle.esto_docmodel.specs.Encodings.{facts_of, size}
use Rattle.esto_docmodel.specs.Rising.{AreRising}
use Rattle.esto_docmodel.specs.declared.encode.Encoded.{Encoded}
use Rattle.esto_docmodel.specs.Shapes.{documents}
use Rattle.esto_docs.specs.Files.{file_trees, trees_fault}
use Rattle.esto_ports.specs.declared.file_fault.FileError.{FileError}
use Rattle.esto_ports.specs.declared.file_fault.FileError.TheVariants as content
use Rattle.esto_ports.specs.declared.file_fault.FileFault.{FileFault}
use Rattle.esto_docmodel.specs.declared.words.DataModel.{DataModel}
use Rattle.esto_docmodel.specs.declared.words.DataModel.TheVariants.{Table, Documents, Keys}
use Rattle.esto_relmodel.specs.RowFacts.{AreRowFacts}
use Rattle.esto_semantics.specs.Maps.{AreFlat}
use Rattle.esto_semantics.specs.declared.fact.Fact.{Fact}
use Rattle.esto_stores.specs.Keys.{key_rows, key_fault}
use Rattle.esto_stores.specs.Table.{table_rows, table_fault}
use Rattle.esto_term.specs.declared.term.Term.{Term}
use Rattle.esto_fill.specs.declared.datasets.DatasetBytes.{DatasetBytes}
use Rattle.esto_fill.specs.declared.datasets.LoadError.{LoadError}
use Rattle.esto_fill.specs.declared.datasets.LoadError.TheVariants.{Fault, OutOfMemory}
use Rattle.esto_fill.specs.declared.loaded.Loaded.{Loaded}
use Rattle.esto_fill.specs.declared.wanted.Wanted.{Wanted}
use Rattle.esto_fill.specs.declared.wanted.Wanted.TheVariants.{Every}
use Rattle.esto_fill.specs.Wanted.{Leaves}

-- ---- the file of one dataset

-- The first fault of the file of a dataset, by its model. A line of keys has three cells.
abbrev pub fault_by_model : DataModel → Dataset → List ℕ → Option FileFault
fault_by_model Table dataset bytes = table_fault dataset.columns bytes
fault_by_model Documents dataset bytes = trees_fault dataset.layout bytes
fault_by_model Keys dataset bytes = key_fault 3 bytes

-- The first fault of the file of a dataset.
abbrev pub dataset_fault : Dataset → List ℕ → Option FileFault
dataset_fault dataset bytes = fault_by_model dataset.model dataset bytes

-- How many nodes the file of a dataset has, by its model: documents alone have nodes.
abbrev pub nodes_by_model : DataModel → Dataset → List ℕ → ℕ
nodes_by_model Table dataset bytes = 0
nodes_by_model Documents dataset bytes = size (documents (file_trees dataset.layout bytes))
nodes_by_model Keys dataset bytes = 0

-- How many nodes the file of a dataset has.
abbrev pub nodes_in : Dataset → List ℕ → ℕ
nodes_in dataset bytes = nodes_by_model dataset.model dataset bytes

-- The facts are those of the file of a dataset, by its model: of a table and of keys those of the rows, each row once, in order of first occurrence; of
-- documents those of the nodes, which are numbered from that number on.
abbrev pub AreFactsByModel : DataModel → Dataset → List ℕ → ℕ → List (Fact Term) → Type 0
AreFactsByModel Table dataset bytes first facts = AreRowFacts dataset.base (table_rows dataset.columns bytes) facts
AreFactsByModel Documents dataset bytes first facts = facts ≡ facts_of dataset.base first (documents (file_trees dataset.layout bytes))
AreFactsByModel Keys dataset bytes first facts = AreRowFacts dataset.base (key_rows bytes) facts

-- The facts are those of the file of a dataset, whose nodes are numbered from that number on.
abbrev pub AreFactsOf : Dataset → List ℕ → ℕ → List (Fact Term) → Type 0
AreFactsOf dataset bytes first facts = AreFactsByModel dataset.model dataset bytes first facts

-- There is no fault; or this is the first; or memory is wanting.
abbrev pub FindsFault : {A : Type 0} → Option FileFault → Result A FileError → Type 0
FindsFault fault (Ok _) = fault ≡ None
FindsFault fault (Err (content.Fault found)) = fault ≡ Some found
FindsFault fault (Err content.OutOfMemory) = Unit {0}

-- ---- the files of several datasets

-- The facts are those of the files, one file after the other, and the nodes of all files are numbered from `first` up to `next`.
abbrev pub AreFactsFrom : List Dataset → ℕ → List DatasetBytes → List (Fact Term) → ℕ → Type 0
AreFactsFrom datasets first [] facts next = (facts ≡ []) × (next ≡ first)
AreFactsFrom datasets first (file ∷ files) facts next =
    (dataset : Dataset) × (own others : List (Fact Term)) × (slice_get datasets file.dataset ≡ Some dataset) × AreFactsOf dataset file.bytes first own
    × AreFactsFrom datasets (first + nodes_in dataset file.bytes) files others next × (facts ≡ own ++ others)

-- In the file of a dataset of documents the names of each object's fields rise.
abbrev pub RiseByModel : DataModel → Dataset → List ℕ → Type 0
RiseByModel Table dataset bytes = Unit {0}
RiseByModel Documents dataset bytes = AreRising (file_trees dataset.layout bytes)
RiseByModel Keys dataset bytes = Unit {0}

-- So it is in each of the files.
abbrev pub HaveRisingNames : List Dataset → List DatasetBytes → Type 0
HaveRisingNames datasets files =
    (file : DatasetBytes) (dataset : Dataset) → Contains files file → slice_get datasets file.dataset ≡ Some dataset
    → RiseByModel dataset.model dataset file.bytes

-- What is loaded is what is left of the facts of the files, whose nodes are numbered from 0 on, and the first number that is no node's; and in documents the
-- names of fields rise.
abbrev pub IsLoadedFrom : List Dataset → Wanted → List DatasetBytes → Loaded → Type 0
IsLoadedFrom datasets wanted files loaded =
    (facts : List (Fact Term)) × AreFactsFrom datasets 0 files facts loaded.next × Leaves wanted facts loaded.facts × HaveRisingNames datasets files

-- No file has a fault.
abbrev pub AreReadable : List Dataset → List DatasetBytes → Type 0
AreReadable datasets files =
    (place : ℕ) (file : DatasetBytes) (dataset : Dataset) → slice_get files place ≡ Some file → slice_get datasets file.dataset ≡ Some dataset
    → dataset_fault dataset file.bytes ≡ None

-- The fault is that of the file of the dataset of that number, and it is the first file that has one.
pub record IsFirstFault (datasets : List Dataset) (files : List DatasetBytes) (number : ℕ) (fault : FileFault) : Type 0 where
  pub place : ℕ
  pub file : DatasetBytes
  pub dataset : Dataset
  pub there : slice_get files place ≡ Some file
  pub same : file.dataset ≡ number
  pub is : slice_get datasets number ≡ Some dataset
  pub at_fault : dataset_fault dataset file.bytes ≡ Some fault
  pub before : (earlier : ℕ) (other : DatasetBytes) (its : Dataset) → earlier < place → slice_get files earlier ≡ Some other
      → slice_get datasets other.dataset ≡ Some its → dataset_fault its other.bytes ≡ None

-- What comes of loading the files: their facts, where no file has a fault; or the fault of the first that has one; or memory is wanting.
abbrev pub LoadsFacts : List Dataset → List DatasetBytes → Result Loaded LoadError → Type 0
LoadsFacts datasets files (Ok loaded) = AreReadable datasets files × AreFactsFrom datasets 0 files loaded.facts loaded.next
LoadsFacts datasets files (Err (Fault number fault)) = IsFirstFault datasets files number fault
LoadsFacts datasets files (Err OutOfMemory) = Unit {0}

-- ---- the relations of a dataset

-- The relation is one of the dataset of that number: it has so many relations as its model wants, from its base on.
abbrev pub HasRelation : List Dataset → ℕ → ℕ → Type 0
HasRelation datasets number relation =
    (dataset : Dataset) × (place : ℕ) × (slice_get datasets number ≡ Some dataset) × (place < relation_count dataset.model) × (relation ≡ dataset.base + place)

-- No two files are of one dataset.
abbrev pub AreApart : List DatasetBytes → Type 0
AreApart files = AllPairs (λ file other. file.dataset ≢ other.dataset) files

-- ---- for private clauses

-- Of the facts of the file of a dataset of this model those that are wanted, which are over constants and plain terms, and the first number that is no
-- node's; and in documents the names of fields rise.
pub record AreWantedOf (model : DataModel) (dataset : Dataset) (wanted : Wanted) (bytes : List ℕ) (first : ℕ) (encoded : Encoded) : Type 0 where
  pub facts : List (Fact Term)
  pub are : AreFactsByModel model dataset bytes first facts
  pub some : Leaves wanted facts encoded.facts
  pub next : encoded.next ≡ first + nodes_by_model model dataset bytes
  pub flat : AreFlat encoded.facts
  pub rising : RiseByModel model dataset bytes

-- These facts of the file, which has no fault; or the file's first fault; or memory is wanting.
abbrev pub GivesFacts : DataModel → Dataset → Wanted → List ℕ → ℕ → Result Encoded FileError → Type 0
GivesFacts model dataset wanted bytes first (Ok encoded) =
    (fault_by_model model dataset bytes ≡ None) × AreWantedOf model dataset wanted bytes first encoded
GivesFacts model dataset wanted bytes first (Err (content.Fault found)) = fault_by_model model dataset bytes ≡ Some found
GivesFacts model dataset wanted bytes first (Err content.OutOfMemory) = Unit {0}

-- The facts of the file come after those that were loaded; or the file has a fault, and this is the first; or memory is wanting.
abbrev pub AddsFile : List Dataset → DatasetBytes → Loaded → Result Loaded LoadError → Type 0
AddsFile datasets file old (Ok new) =
    ((files : List DatasetBytes) → IsLoadedFrom datasets Every files old → IsLoadedFrom datasets Every (files ++ file ∷ []) new)
    × ((dataset : Dataset) → slice_get datasets file.dataset ≡ Some dataset → dataset_fault dataset file.bytes ≡ None)
AddsFile datasets file old (Err (Fault number fault)) =
    (number ≡ file.dataset) × ((dataset : Dataset) × (slice_get datasets file.dataset ≡ Some dataset) × (dataset_fault dataset file.bytes ≡ Some fault))
AddsFile datasets file old (Err OutOfMemory) = Unit {0}
