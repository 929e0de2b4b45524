-- That each text of a query, a view, a union, a constraint or a layout has one reading, or one first fault.
use Rattle.std.specs.Prelude.{◌≡◌, ℕ, List}
use Rattle.esto_docmodel.specs.Shapes.{entries_of}
use Rattle.esto_query.specs.declared.query.Name.{Name}
use Rattle.esto_text.specs.declared.version.Version.{Version}
use Rattle.esto_read.specs.Constraints.{IsConstraintReading, IsConstraintFault, AreSameRule}
use Rattle.esto_read.specs.Layouts.{AreColumns, IsLayoutReading, IsLayoutFault}
use Rattle.esto_read.specs.Readings.{IsReading, IsFirstFault, AreSame}
use Rattle.esto_read.specs.Unions.{IsUnionReading, IsFirstUnionFault, AreAllSame}
use Rattle.esto_docmodel.specs.Words.{IsVocabulary}
use Rattle.esto_read.specs.declared.read.Form.{Form}
use Rattle.esto_docmodel.specs.declared.words.Word.{Word}
use Rattle.esto_input_laws.specs.Totality.{IsTotal, IsFunction}

-- Over each vocabulary, whatever the bytes are, they have a reading as a query or a view, or a first fault.
abbrev pub ReadingsAreTotal : Type 0
ReadingsAreTotal =
    (form : Form) (words : List Word) (schema : List ℕ) → IsVocabulary schema words → IsTotal (IsReading form words schema) (IsFirstFault form words schema)

-- So it is of unions of queries.
abbrev pub UnionReadingsAreTotal : Type 0
UnionReadingsAreTotal =
    (words : List Word) (schema : List ℕ) → IsVocabulary schema words → IsTotal (IsUnionReading words schema) (IsFirstUnionFault words schema)

-- And of constraints, in each version.
abbrev pub ConstraintReadingsAreTotal : Type 0
ConstraintReadingsAreTotal =
    (version : Version) (words : List Word) (schema : List ℕ) → IsVocabulary schema words
    → IsTotal (IsConstraintReading version words schema) (IsConstraintFault version words schema)

-- And of layouts, over whatever columns.
abbrev pub LayoutReadingsAreTotal : Type 0
LayoutReadingsAreTotal = (columns : List Name) → IsTotal (IsLayoutReading columns) (IsLayoutFault columns)

-- Over each vocabulary, whatever the bytes are, they have one answer as a query or a view: a reading, with one name, one head, one body and one list of names
-- of variables, or a first fault.
abbrev pub ReadingIsAFunction : Type 0
ReadingIsAFunction =
    (form : Form) (words : List Word) (schema : List ℕ) → IsVocabulary schema words
    → IsFunction AreSame (IsReading form words schema) (IsFirstFault form words schema)

-- So they have as a union of queries, query by query.
abbrev pub UnionReadingIsAFunction : Type 0
UnionReadingIsAFunction =
    (words : List Word) (schema : List ℕ) → IsVocabulary schema words → IsFunction AreAllSame (IsUnionReading words schema) (IsFirstUnionFault words schema)

-- And as a constraint, in each version: a rule of one kind, with one body, one head or two sides if it has any, and one list of names of variables, or a first
-- fault.
abbrev pub ConstraintReadingIsAFunction : Type 0
ConstraintReadingIsAFunction =
    (version : Version) (words : List Word) (schema : List ℕ) → IsVocabulary schema words
    → IsFunction AreSameRule (IsConstraintReading version words schema) (IsConstraintFault version words schema)

-- And as a layout over columns, where a pattern counts by its entries.
abbrev pub LayoutReadingIsAFunction : Type 0
LayoutReadingIsAFunction =
    (columns : List Name) → AreColumns columns
    → IsFunction (λ pattern other. entries_of pattern.entries ≡ entries_of other.entries) (IsLayoutReading columns) (IsLayoutFault columns)
