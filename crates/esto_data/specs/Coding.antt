-- What is loaded of datasets' files, as rows of codes.
use Rattle.std.specs.Prelude.{◌≡◌, ◌↔◌, ℕ, List, [], ◌∷◌, ◌++◌, Contains, length, Option, Some, None, Result, Ok, Err}
use Rattle.std.specs.List.{AllZip}
use Rattle.esto_mapping.specs.declared.dataset.Dataset.{Dataset}
use Rattle.esto_coded.specs.Coded.{Coded, StandFor, StandInOrder, arities_of}
use Rattle.esto_columns.specs.CodedRows.{CodedRows}
use Rattle.esto_columns.specs.Interned.{AreCodedRows}
use Rattle.esto_ports.specs.declared.file_fault.FileError.{FileError}
use Rattle.esto_ports.specs.declared.file_fault.FileError.TheVariants as content
use Rattle.esto_ports.specs.declared.file_fault.FileFault.{FileFault}
use Rattle.esto_query.specs.Schemas as schemas
use Rattle.esto_query.specs.declared.query.Query.{Query}
use Rattle.esto_query.specs.declared.schema.Relation.{Relation}
use Rattle.esto_relmodel.specs.Once.{KeepAll}
use Rattle.esto_semantics.specs.declared.fact.Fact.{Fact}
use Rattle.esto_term.specs.declared.term.Term.{Term}
use Rattle.esto_stores.specs.Rows.{Row}
use Rattle.esto_fill.specs.Files.{IsLoadedFrom}
use Rattle.esto_data.specs.declared.coded_data.CodedData.{CodedData}
use Rattle.esto_fill.specs.declared.datasets.DatasetBytes.{DatasetBytes}
use Rattle.esto_fill.specs.declared.loaded.Loaded.{Loaded}
use Rattle.esto_fill.specs.declared.wanted.Wanted.{Wanted}

-- The rows of codes stand in order for a list of facts, of which these are all, in the order in which they first stand.
abbrev pub StandKept : Coded → List (Fact Term) → Type 0
StandKept coded facts = (all : List (Fact Term)) × StandInOrder coded all × KeepAll all facts

-- The rows of codes stand for the facts that are loaded, in the order of these too, and nodes are numbered on from the
-- same number.
pub record IsCodedOf (loaded : Loaded) (coded : CodedData) : Type 0 where
  pub stand : StandFor coded.facts loaded.facts
  pub ordered : StandKept coded.facts loaded.facts
  pub next : coded.next ≡ loaded.next

-- The rows of codes stand for something that is loaded.
abbrev pub IsCoded : CodedData → Type 0
IsCoded coded = (loaded : Loaded) × IsCodedOf loaded coded

-- The rows are over the relations of the schema, with as many columns each.
abbrev pub IsOver : List Relation → CodedData → Type 0
IsOver schema coded = arities_of coded.facts ≡ schemas.arities_of schema

-- The rows of codes stand for what is loaded of the files.
abbrev pub IsCodedFrom : List Dataset → Wanted → List DatasetBytes → CodedData → Type 0
IsCodedFrom datasets wanted files coded = (loaded : Loaded) × IsCodedOf loaded coded × IsLoadedFrom datasets wanted files loaded

-- The heads of the queries are of one length.
abbrev pub HaveOneLength : List Query → Type 0
HaveOneLength queries = (query other : Query) → Contains queries query → Contains queries other → length query.head ≡ length other.head

-- The lists of rows of codes are those of the lists of rows of texts, one each, row by row.
abbrev pub AreCodedLists : List (List ℕ) → List CodedRows → List (List Row) → Type 0
AreCodedLists texts coded lists = AllZip (λ (own : CodedRows) (rows : List Row). AreCodedRows texts own.rows rows) coded lists

-- To the lists of rows of codes came that of a list of rows, which are exactly those that are so.
abbrev pub AddsList : (Row → Type 0) → List (List ℕ) → List (List ℕ) → List CodedRows → List CodedRows → Type 0
AddsList Has texts more old new =
    (own : List Row) × ((row : Row) → Contains own row ↔ Has row)
    × ((lists : List (List Row)) → AreCodedLists texts old lists → AreCodedLists more new (lists ++ own ∷ []))

-- So it is, and there is no fault; or it is the first fault; or memory is wanting.
abbrev pub CodesFile : (Row → Type 0) → Option FileFault → List (List ℕ) → List (List ℕ) → List CodedRows → List CodedRows
    → Result (Unit {0}) FileError → Type 0
CodesFile Has fault texts more old new (Ok _) = (fault ≡ None) × AddsList Has texts more old new
CodesFile Has fault texts more old new (Err (content.Fault found)) = fault ≡ Some found
CodesFile Has fault texts more old new (Err content.OutOfMemory) = Unit {0}
