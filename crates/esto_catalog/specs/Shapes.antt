-- How the rows of a fragment are stored: columns, layout and pattern.
use Rattle.std.specs.Prelude.{◌≡◌, ◌≢◌, ℕ, List, [], Option, Some, None, length, map, slice_get, codes, AllPairs}
use Rattle.esto_course.specs.Course.{Course, judges, gives, refuses, demands, and_then}
use Rattle.esto_docmodel.specs.Layouts.{IsLayout}
use Rattle.esto_docmodel.specs.Shapes.{entries_of}
use Rattle.esto_docmodel.specs.declared.pattern.Pattern.{Pattern}
use Rattle.esto_query.specs.declared.query.Name.{Name}
use Rattle.esto_query.specs.declared.query.Name.TheVariants.{Given}
use Rattle.esto_query.specs.declared.query.Query.{Query}
use Rattle.esto_read.specs.Layouts.{IsLayoutReading, IsLayoutFault}
use Rattle.esto_docmodel.specs.declared.words.DataModel.{DataModel}
use Rattle.esto_docmodel.specs.declared.words.DataModel.TheVariants.{Table, Documents, Keys}
use Rattle.esto_term.specs.declared.term.Term.{Term}
use Rattle.esto_term.specs.declared.term.Term.TheVariants.{Plain}
use Rattle.esto_text.specs.declared.fault.TextFault.{TextFault}
use Rattle.esto_mapping.specs.Datasets.{AreColumns}
use Rattle.esto_catalog.specs.Models.{layout_row, unfit_row}
use Rattle.esto_catalog.specs.Rows.{fault_at, text_fault_at, needs_text}
use Rattle.esto_settings.specs.Settings.{setting_at}
use Rattle.esto_docmodel.specs.declared.file.Shape.{Shape}
use Rattle.esto_docmodel.specs.declared.file.Shape.TheVariants.{Table as FromTable, Documents as FromDocuments, Keys as FromKeys}
use Rattle.esto_catalog.specs.declared.fault.CatalogueError.{CatalogueError}
use Rattle.esto_status.specs.declared.fault.CatalogueKind.TheVariants.{BadColumns, BadPattern, WrongType}
use Rattle.esto_catalog.specs.declared.fault.Place.{Place}
use Rattle.esto_settings.specs.declared.setting.Field.{Field}
use Rattle.esto_settings.specs.declared.setting.Setting.{Setting}
use Rattle.esto_settings.specs.declared.setting.Setting.TheVariants.{Texts}

-- The name that is written for a variable. The variables of a view's head have one.
abbrev pub name_at : Option Name → List ℕ
name_at (Some (Given name)) = name
name_at _ = []

-- The column that is named as a variable is.
abbrev pub column_of : List Name → Term → List ℕ
column_of names (Plain number) = name_at (slice_get names number)
column_of names _ = []

-- The columns that are named as the variables of the view's head are.
abbrev pub head_columns : Query → List (List ℕ)
head_columns view = map (column_of view.names) view.head

-- No two variables of the view's head have one name.
abbrev pub AreDistinctNames : Query → Type 0
AreDistinctNames view = AllPairs ◌≢◌ (head_columns view)

-- The columns may be absent, and are then named as the head's variables. Else they are columns of a table, as many as the view has.
abbrev pub store_columns : Place → Query → Option Setting → Course CatalogueError (List (List ℕ))
store_columns place view None = gives (head_columns view)
store_columns place view (Some (Texts columns)) =
    and_then (demands (AreColumns columns × (length columns ≡ length view.head)) (fault_at BadColumns place (codes "columns"))) (λ _. gives columns)
store_columns place view (Some _) = refuses (fault_at WrongType place (codes "columns"))

-- The columns of the store.
abbrev pub store_columns_row : Place → Query → List Field → Course CatalogueError (List (List ℕ))
store_columns_row place view entry = store_columns place view (setting_at (codes "columns") entry)

-- The text is one of a pattern over the columns that are named as the view's head's variables are; else BadText with the text's first fault.
abbrev pub reads_pattern : Place → Query → List ℕ → Course CatalogueError Pattern
reads_pattern place view text =
    judges (IsLayoutReading (map Given (head_columns view)) text)
    (λ error. (fault : TextFault) × IsLayoutFault (map Given (head_columns view)) text fault × (error ≡ text_fault_at fault place (codes "pattern")))

-- The pattern is needed: a pattern's text, and a layout for as many columns as the view has.
abbrev pub pattern_row : Place → Query → List Field → Course CatalogueError Pattern
pattern_row place view entry =
    and_then (needs_text place (codes "pattern") (setting_at (codes "pattern") entry)) (λ text.
    and_then (reads_pattern place view text) (λ pattern.
    and_then (demands (IsLayout (length view.head) (entries_of pattern.entries)) (fault_at BadPattern place (codes "pattern"))) (λ _.
    gives pattern)))

-- No layout and no pattern are written, in this order; else Unfit.
abbrev pub plain_rows : Place → List Field → Course CatalogueError (Unit {0})
plain_rows place entry = and_then (unfit_row (codes "layout") place entry) (λ _. unfit_row (codes "pattern") place entry)

-- The rows of a table's shape, in order: columns, layout, pattern.
abbrev pub table_row : Place → Query → List Field → Course CatalogueError Shape
table_row place view entry =
    and_then (store_columns_row place view entry) (λ columns.
    and_then (unfit_row (codes "layout") place entry) (λ _.
    and_then (unfit_row (codes "pattern") place entry) (λ _.
    gives (FromTable columns))))

-- The rows of the shape of documents, in order: columns, layout, pattern.
abbrev pub documents_row : Place → Query → List Field → Course CatalogueError Shape
documents_row place view entry =
    and_then (unfit_row (codes "columns") place entry) (λ _.
    and_then (layout_row place Documents entry) (λ layout.
    and_then (pattern_row place view entry) (λ pattern.
    gives (FromDocuments layout pattern))))

-- The rows of the shape of keys, in order: columns, layout, pattern.
abbrev pub keys_row : Place → List Field → Course CatalogueError Shape
keys_row place entry =
    and_then (unfit_row (codes "columns") place entry) (λ _.
    and_then (unfit_row (codes "layout") place entry) (λ _.
    and_then (unfit_row (codes "pattern") place entry) (λ _.
    gives FromKeys)))

-- The shape of a store of this model.
abbrev pub shape_row : Place → DataModel → Query → List Field → Course CatalogueError Shape
shape_row place Table view entry = table_row place view entry
shape_row place Documents view entry = documents_row place view entry
shape_row place Keys view entry = keys_row place entry
