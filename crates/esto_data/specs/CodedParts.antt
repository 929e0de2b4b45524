-- For private clauses: what is put into rows of codes, and rows of codes that answer queries.
use Rattle.std.specs.Prelude.{◌≡◌, ◌↔◌, ◌⊎◌, ℕ, ◌+◌, ◌≤◌, List, ◌++◌, map, length, slice_get, Contains, Option, Some, None, Result, Ok, Err}
use Rattle.esto_mapping.specs.Datasets.{relations_of}
use Rattle.esto_mapping.specs.declared.dataset.Dataset.{Dataset}
use Rattle.esto_coded.specs.Coded.{AreCodesOf, HasPlace, StandInOrder, Coded, arities_of, rows_in}
use Rattle.esto_coded.specs.Shown.{HasNodeAt, LeastNode}
use Rattle.esto_coded.specs.declared.coded.TheConstants.{FIRST_NODE}
use Rattle.esto_columns.specs.Interned as interned
use Rattle.esto_docmodel.specs.DocumentFacts.{DocFact, flat}
use Rattle.esto_docmodel.specs.Encodings.{kept_of, size}
use Rattle.esto_docmodel.specs.Rising as rising
use Rattle.esto_docmodel.specs.Shapes.{documents}
use Rattle.esto_docmodel.specs.declared.encode.Encoded.{Encoded}
use Rattle.esto_docmodel.specs.declared.kept.Kept.{Kept}
use Rattle.esto_docmodel.specs.declared.tree.Tree.{Tree}
use Rattle.esto_ports.specs.declared.file_fault.FileFault.{FileFault}
use Rattle.esto_ports.specs.declared.file_fault.FileError.{FileError}
use Rattle.esto_ports.specs.declared.file_fault.FileError.TheVariants as content
use Rattle.esto_query.specs.declared.schema.Relation.{Relation}
use Rattle.esto_docmodel.specs.declared.words.DataModel.{DataModel}
use Rattle.esto_query.specs.Making.{query_of}
use Rattle.esto_query.specs.declared.query.Query.{Query}
use Rattle.esto_relmodel.specs.Once.{KeepAll}
use Rattle.esto_relmodel.specs.RowFacts.{row_fact}
use Rattle.esto_run.specs.Answers.{AreRising}
use Rattle.esto_semantics.specs.Queries.{ConjunctiveQuery, IsAnswerInto}
use Rattle.esto_semantics.specs.declared.fact.Fact.{Fact}
use Rattle.esto_stores.specs.Rows.{Row}
use Rattle.esto_term.specs.Kinds.{IsConstant}
use Rattle.esto_term.specs.declared.term.Term.{Term}
use Rattle.esto_term.specs.declared.term.Term.TheVariants.{Const}
use Rattle.esto_data.specs.Coding.{IsCodedOf}
use Rattle.esto_fill.specs.Files.{AreWantedOf, fault_by_model}
use Rattle.esto_data.specs.declared.coded_data.CodedData.{CodedData}
use Rattle.esto_fill.specs.declared.loaded.Loaded.{Loaded}
use Rattle.esto_fill.specs.declared.rows.AnswerError.{AnswerError}
use Rattle.esto_fill.specs.declared.rows.AnswerError.TheVariants.{NodeInRow, OutOfMemory}
use Rattle.esto_fill.specs.declared.wanted.Wanted.{Wanted}

-- ---- what stays

-- For whatever is loaded the rows of codes stood, they stand now; and each text has its code still.
pub record Stays (old new : CodedData) : Type 0 where
  pub kept : (loaded : Loaded) → IsCodedOf loaded old → IsCodedOf loaded new
  pub grown : interned.Grows old.facts.texts new.facts.texts

-- ---- what is put

-- Each relation of the dataset has its number of columns there.
abbrev pub HasRelations : Dataset → CodedData → Type 0
HasRelations dataset coded =
    (number : ℕ) (relation : Relation) → slice_get (relations_of dataset) number ≡ Some relation
    → slice_get (arities_of coded.facts) (dataset.base + number) ≡ Some relation.arity

-- For whatever facts the rows stood in order, they stand now for those and then for more, of which these facts are all,
-- in the order in which they first stand; and no relation has other columns.
pub record Puts (own : List (Fact Term)) (old new : CodedData) : Type 0 where
  pub more : List (Fact Term)
  pub ordered : (facts : List (Fact Term)) → StandInOrder old.facts facts → StandInOrder new.facts (facts ++ more)
  pub kept : KeepAll more own
  pub arities : arities_of new.facts ≡ arities_of old.facts

-- The facts of the rows are put, and no node, and there is no fault; or it is the first fault; or memory is wanting.
abbrev pub PutsRead : ℕ → List Row → Option FileFault → CodedData → CodedData → Result (Unit {0}) FileError → Type 0
PutsRead relation rows fault old new (Ok _) = (fault ≡ None) × Puts (map (row_fact relation) rows) old new × (new.next ≡ old.next)
PutsRead relation rows fault old new (Err (content.Fault found)) = fault ≡ Some found
PutsRead relation rows fault old new (Err content.OutOfMemory) = Unit {0}

-- These facts are put, and nodes are numbered on from that number.
abbrev pub PutsEncoded : Encoded → CodedData → CodedData → Type 0
PutsEncoded encoded old new = Puts encoded.facts old new × (new.next ≡ encoded.next)

-- Each fact of documents has its place in the relations.
abbrev pub HasPlaces : Kept → CodedData → Type 0
HasPlaces relations coded = (fact : DocFact Term) → HasPlace coded.facts (flat relations.base fact)

-- Of the facts of these documents those that are kept are put, and nodes are numbered on; and the names of fields rise.
pub record PutsKept (relations : Kept) (trees : List Tree) (old new : CodedData) : Type 0 where
  pub puts : Puts (kept_of relations old.next (documents trees)) old new
  pub next : new.next ≡ old.next + size (documents trees)
  pub rising : rising.AreRising trees

-- So it is, and there is no fault; or it is the first fault; or memory is wanting.
abbrev pub PutsTrees : Kept → List Tree → Option FileFault → CodedData → CodedData → Result (Unit {0}) FileError → Type 0
PutsTrees relations trees fault old new (Ok _) = (fault ≡ None) × PutsKept relations trees old new
PutsTrees relations trees fault old new (Err (content.Fault found)) = fault ≡ Some found
PutsTrees relations trees fault old new (Err content.OutOfMemory) = Unit {0}

-- Of the facts of the file, which has no fault, those that are wanted are put; or it is the file's first fault; or
-- memory is wanting.
abbrev pub PutsFile : DataModel → Dataset → Wanted → List ℕ → CodedData → CodedData → Result (Unit {0}) FileError → Type 0
PutsFile model dataset wanted bytes old new (Ok _) =
    (fault_by_model model dataset bytes ≡ None)
    × ((encoded : Encoded) × AreWantedOf model dataset wanted bytes old.next encoded × PutsEncoded encoded old new)
PutsFile model dataset wanted bytes old new (Err (content.Fault found)) = fault_by_model model dataset bytes ≡ Some found
PutsFile model dataset wanted bytes old new (Err content.OutOfMemory) = Unit {0}

-- ---- rows that answer

-- The row is an answer over the facts of one of the queries.
abbrev pub IsUnionRow : List Query → List (Fact Term) → List Term → Type 0
IsUnionRow queries facts row = (query : Query) × Contains queries query × IsAnswerInto Const (query_of query) (Contains facts) row

-- Each of the rows of codes is that of terms.
abbrev pub HaveTerms : List (List ℕ) → List (List ℕ) → Type 0
HaveTerms texts rows = (row : List ℕ) → Contains rows row → (terms : List Term) × AreCodesOf texts terms row

-- Each of the rows of codes is that of one of the rows of terms, and each of those has one; and the codes of texts
-- stand below those of nodes.
pub record AreRowsOf (texts : List (List ℕ)) (rows : List (List ℕ)) (Terms : List Term → Type 0) : Type 0 where
  pub there : (row : List ℕ) → Contains rows row → (terms : List Term) × Terms terms × AreCodesOf texts terms row
  pub back : (terms : List Term) → Terms terms → (row : List ℕ) × Contains rows row × AreCodesOf texts terms row
  pub few : (row : List ℕ) → Contains rows row → length texts ≤ FIRST_NODE

-- The answer is the list of the rows as texts, none of which has a node; or the least column, counted from 1, that has
-- one; or memory is wanting.
abbrev pub ShowsRows : List (List ℕ) → List (List ℕ) → Result (List Row) AnswerError → Type 0
ShowsRows texts rows (Ok shown) =
    LeastNode rows None × ((row : Row) → Contains shown row ↔ ((own : List ℕ) × Contains rows own × interned.AreCodesOf texts own row)) × AreRising shown
ShowsRows texts rows (Err (NodeInRow column)) = (place : ℕ) × (column ≡ place + 1) × LeastNode rows (Some place)
ShowsRows texts rows (Err OutOfMemory) = Unit {0}

-- ---- columns without nodes

-- No row of the relation has a node in the column.
abbrev pub HasNoNode : Coded → ℕ → ℕ → Type 0
HasNoNode coded relation column = (row : List ℕ) → Contains (rows_in coded.relations relation) row → ¬ (HasNodeAt column row)

-- The term stands in the atom in such a column.
abbrev pub IsCodedFreeIn : Coded → Term → Fact Term → Type 0
IsCodedFreeIn coded term atom = (column : ℕ) × (slice_get atom.terms column ≡ Some term) × HasNoNode coded atom.relation column

-- The term is a constant, or stands so in one of the atoms.
abbrev pub IsCodedFree : Coded → List (Fact Term) → Term → Type 0
IsCodedFree coded body term = IsConstant term ⊎ ((atom : Fact Term) × Contains body atom × IsCodedFreeIn coded term atom)

-- Each term of the head is so.
abbrev pub IsCodedFreeView : Coded → ConjunctiveQuery → Type 0
IsCodedFreeView coded view = (term : Term) → Contains view.head term → IsCodedFree coded view.body term
