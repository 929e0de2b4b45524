-- What a text of a union of queries means, and its first fault.
use Rattle.std.specs.Prelude.{IsUtf8, Contains, ◌≡◌, ◌≢◌, ◌⊎◌, ◌↔◌, ℕ, List, [], ◌∷◌, length}
use Rattle.esto_text.specs.Faults.{IsUnionText, IsUnionGrammarFault}
use Rattle.esto_text.specs.Trees.{QueryTree}
use Rattle.esto_text.specs.declared.fault.ReadError.{ReadError}
use Rattle.esto_text.specs.declared.fault.ReadError.TheVariants.{Fault, OutOfMemory}
use Rattle.esto_text.specs.declared.fault.TextFault.{TextFault}
use Rattle.esto_text.specs.declared.fault.TextKind.TheVariants.{HeadLength}
use Rattle.esto_read.specs.Readings.{IsSaid, IsTreeFault, IsReading, AreSame}
use Rattle.esto_docmodel.specs.Words.{IsVocabulary}
use Rattle.esto_read.specs.declared.read.Form.TheVariants.{Query}
use Rattle.esto_read.specs.declared.read.NamedQuery.{NamedQuery}
use Rattle.esto_docmodel.specs.declared.words.Word.{Word}

-- How many names the head of the first tree has.
abbrev pub head_length : List QueryTree → ℕ
head_length [] = 0
head_length (tree ∷ trees) = length tree.variables

-- The query is what the tree says, and its head has so many names.
abbrev pub IsSaidWith : ℕ → List Word → List ℕ → List ℕ → QueryTree → NamedQuery → Type 0
IsSaidWith count words schema bytes tree query = (length tree.variables ≡ count) × IsSaid Query words schema bytes tree query

-- The queries are what the trees say, each by itself, and each head has so many names.
abbrev pub AreSaid : ℕ → List Word → List ℕ → List ℕ → List QueryTree → List NamedQuery → Type 0
AreSaid count words schema bytes [] [] = Unit {0}
AreSaid count words schema bytes (tree ∷ trees) (query ∷ queries) =
    IsSaidWith count words schema bytes tree query × AreSaid count words schema bytes trees queries
AreSaid count words schema bytes _ _ = ⊥

-- The first fault of a tree whose head is to have so many names: it has another number, which is told at the tree's first token; else its own.
abbrev pub IsFaultWith : ℕ → List Word → List ℕ → List ℕ → QueryTree → TextFault → Type 0
IsFaultWith count words schema bytes tree fault =
    ((length tree.variables ≢ count) × (fault ≡ record { offset = tree.name.start; kind = HeadLength }))
    ⊎ ((length tree.variables ≡ count) × IsTreeFault Query words schema bytes tree fault)

-- Why no query is made of a tree whose head is to have so many names: its first fault, or want of memory.
abbrev pub IsErrorWith : ℕ → List Word → List ℕ → List ℕ → QueryTree → ReadError → Type 0
IsErrorWith count words schema bytes tree (Fault fault) = IsFaultWith count words schema bytes tree fault
IsErrorWith count words schema bytes tree OutOfMemory = Unit {0}

-- The first fault of the first tree that has one.
abbrev pub IsFirstFaultWith : ℕ → List Word → List ℕ → List ℕ → List QueryTree → TextFault → Type 0
IsFirstFaultWith count words schema bytes [] fault = ⊥
IsFirstFaultWith count words schema bytes (tree ∷ trees) fault =
    IsFaultWith count words schema bytes tree fault
    ⊎ (((query : NamedQuery) × IsSaidWith count words schema bytes tree query) × IsFirstFaultWith count words schema bytes trees fault)

-- The text is a union, and the queries are what its trees mean, in order. Their heads are of one length.
abbrev pub IsUnionReading : List Word → List ℕ → List ℕ → List NamedQuery → Type 0
IsUnionReading words schema bytes queries =
    (trees : List QueryTree) × IsUnionText bytes trees × AreSaid (head_length trees) words schema bytes trees queries

-- The first fault of a text of a union: that of its bytes or its grammar, or else that of the first of its trees that has one.
abbrev pub IsFirstUnionFault : List Word → List ℕ → List ℕ → TextFault → Type 0
IsFirstUnionFault words schema bytes fault =
    IsUnionGrammarFault bytes fault
    ⊎ ((trees : List QueryTree) × IsUnionText bytes trees × IsFirstFaultWith (head_length trees) words schema bytes trees fault)

-- Why a text is not read as a union: its first fault, or, for bytes that are UTF-8, want of memory.
abbrev pub IsUnionError : List Word → List ℕ → List ℕ → ReadError → Type 0
IsUnionError words schema bytes (Fault fault) = IsFirstUnionFault words schema bytes fault
IsUnionError words schema bytes OutOfMemory = IsUtf8 bytes

-- The heads of the queries are of one length.
abbrev pub HaveOneLength : List NamedQuery → Type 0
HaveOneLength queries =
    (query other : NamedQuery) → Contains queries query → Contains queries other → length query.query.head ≡ length other.query.head

-- Two lists of queries have the same names, heads, bodies and names of variables, query by query.
abbrev pub AreAllSame : List NamedQuery → List NamedQuery → Type 0
AreAllSame [] [] = Unit {0}
AreAllSame (query ∷ queries) (other ∷ others) = AreSame query other × AreAllSame queries others
AreAllSame _ _ = ⊥

-- A text has at most one reading as a union.
abbrev pub HaveOneUnion : Type 0
HaveOneUnion =
    (words : List Word) (schema bytes : List ℕ) (queries others : List NamedQuery) → IsVocabulary schema words → IsUnionReading words schema bytes queries
    → IsUnionReading words schema bytes others → AreAllSame queries others

-- A text that has a reading as a union has no fault.
abbrev pub HaveNoUnionFault : Type 0
HaveNoUnionFault =
    (words : List Word) (schema bytes : List ℕ) (queries : List NamedQuery) (fault : TextFault) → IsVocabulary schema words
    → IsUnionReading words schema bytes queries → ¬ IsFirstUnionFault words schema bytes fault

-- A text has at most one first fault as a union.
abbrev pub HaveOneUnionFault : Type 0
HaveOneUnionFault =
    (words : List Word) (schema bytes : List ℕ) (fault other : TextFault) → IsVocabulary schema words → IsFirstUnionFault words schema bytes fault
    → IsFirstUnionFault words schema bytes other → fault ≡ other

-- A text is read as a union of one query exactly where it is read as that query.
abbrev pub UnionOfOneIsQuery : Type 0
UnionOfOneIsQuery =
    (words : List Word) (schema bytes : List ℕ) (query : NamedQuery)
    → IsUnionReading words schema bytes (query ∷ []) ↔ IsReading Query words schema bytes query
