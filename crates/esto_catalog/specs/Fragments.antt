-- The rows of a fragment.
use Rattle.std.specs.Prelude.{◌≡◌, ℕ, List, [], ◌∷◌, ◌++◌, Bool, false, ◌||◌, codes}
use Rattle.std.specs.List.{list_any}
use Rattle.esto_course.specs.Course.{Course, judges, gives, demands, and_then, each}
use Rattle.esto_query.specs.Schemas.{arities_of}
use Rattle.esto_read.specs.Readings.{IsReading, IsFirstFault}
use Rattle.esto_read.specs.declared.read.Form.TheVariants.{View}
use Rattle.esto_query.specs.declared.query.Query.{Query}
use Rattle.esto_read.specs.declared.read.NamedQuery.{NamedQuery}
use Rattle.esto_docmodel.specs.declared.words.DataModel.{DataModel}
use Rattle.esto_text.specs.declared.fault.TextFault.{TextFault}
use Rattle.esto_views.specs.declared.fragments.FragmentDef.{FragmentDef}
use Rattle.esto_catalog.specs.Access.{access_row, weight_row}
use Rattle.esto_catalog.specs.Datasets.{has_dataset}
use Rattle.esto_mapping.specs.Datasets.{schema_of, words_of}
use Rattle.esto_catalog.specs.Models.{needs_model}
use Rattle.esto_catalog.specs.Rows.{fault_at, text_fault_at, knows_keys, needs_text}
use Rattle.esto_settings.specs.Settings.{is_same, setting_at}
use Rattle.esto_catalog.specs.Shapes.{shape_row}
use Rattle.esto_docmodel.specs.declared.file.Shape.{Shape}
use Rattle.esto_docmodel.specs.declared.file.Store.{Store}
use Rattle.esto_mapping.specs.declared.dataset.Dataset.{Dataset}
use Rattle.esto_catalog.specs.declared.fault.CatalogueError.{CatalogueError}
use Rattle.esto_status.specs.declared.fault.CatalogueKind.TheVariants.{SameName, BadStore}
use Rattle.esto_catalog.specs.declared.fault.Place.{Place}
use Rattle.esto_status.specs.declared.fault.Section.TheVariants as section
use Rattle.esto_catalog.specs.declared.fragment.Fragments.{Fragments}
use Rattle.esto_catalog.specs.declared.fragment.Stored.{Stored}
use Rattle.esto_settings.specs.declared.setting.Field.{Field}
use Rattle.esto_catalog.specs.declared.row.Keys.TheVariants as keys

-- A fragment has the name.
abbrev pub has_fragment : List ℕ → List FragmentDef → Bool
has_fragment name fragments = list_any (λ (fragment : FragmentDef). is_same fragment.name name) fragments

-- The text is a view over the datasets' relations; else BadText with the text's first fault.
abbrev pub reads_view : Place → List Dataset → List ℕ → Course CatalogueError NamedQuery
reads_view place datasets text =
    judges (λ view. IsReading View (words_of datasets) (arities_of (schema_of datasets)) text view)
    (λ error. (fault : TextFault) × IsFirstFault View (words_of datasets) (arities_of (schema_of datasets)) text fault
    × (error ≡ text_fault_at fault place (codes "view")))

-- The view is needed: a view's text, whose head has a name that no dataset and no earlier fragment has.
abbrev pub view_row : Place → List Dataset → List FragmentDef → List Field → Course CatalogueError NamedQuery
view_row place datasets earlier entry =
    and_then (needs_text place (codes "view") (setting_at (codes "view") entry)) (λ text.
    and_then (reads_view place datasets text) (λ view.
    and_then (demands ((has_dataset view.name datasets || has_fragment view.name earlier) ≡ false) (fault_at SameName place (codes "view"))) (λ _.
    gives view)))

-- The file is needed.
abbrev pub file_row : Place → List Field → Course CatalogueError (List ℕ)
file_row place entry = needs_text place (codes "file") (setting_at (codes "file") entry)

-- The rows of a fragment's binding patterns and of its weight, in order: access, weight.
abbrev pub access_and_weight_rows : Place → DataModel → Query → List Field → Course CatalogueError (List (List Bool) × ℕ)
access_and_weight_rows place model view entry =
    and_then (access_row place model view entry) (λ access.
    and_then (weight_row place entry) (λ weight.
    gives (access, weight)))

-- The rows after the file, in order: columns, layout, pattern, access, weight.
abbrev pub rows_after_file : Place → DataModel → Query → List Field → Course CatalogueError (Shape × List (List Bool) × ℕ)
rows_after_file place model view entry =
    and_then (shape_row place model view entry) (λ shape.
    and_then (access_and_weight_rows place model view entry) (λ last.
    gives (shape, last.0, last.1)))

-- The rows after the store, in order: file, columns, layout, pattern, access, weight.
abbrev pub rows_after_store : Place → DataModel → Query → List Field → Course CatalogueError (Store × List (List Bool) × ℕ)
rows_after_store place model view entry =
    and_then (file_row place entry) (λ file.
    and_then (rows_after_file place model view entry) (λ rest.
    gives (record { shape = rest.0; file = file }, rest.1, rest.2)))

-- The rows after the view, in order: store, file, columns, layout, pattern, access, weight.
abbrev pub rows_after_view : Place → Query → List Field → Course CatalogueError (Store × List (List Bool) × ℕ)
rows_after_view place view entry =
    and_then (needs_model BadStore place (codes "store") entry) (λ model.
    and_then (file_row place entry) (λ file.
    and_then (rows_after_file place model view entry) (λ rest.
    gives (record { shape = rest.0; file = file }, rest.1, rest.2))))

-- The fragment of a view, its store, its binding patterns and its weight.
abbrev pub stored_fragment : NamedQuery → Store → List (List Bool) → ℕ → Stored
stored_fragment view store access weight = record {
  definition = record { name = view.name; view = view.query; access = access; weight = weight };
  store = store;
}

-- The rows of a fragment, in order: unknown keys, view, store, file, columns, layout, pattern, access, weight.
abbrev pub reads_fragment : Place → List Dataset → List FragmentDef → List Field → Course CatalogueError Stored
reads_fragment place datasets earlier entry =
    and_then (knows_keys place keys.Fragment entry) (λ _.
    and_then (view_row place datasets earlier entry) (λ view.
    and_then (rows_after_view place view.query entry) (λ rest.
    gives (stored_fragment view rest.0 rest.1 rest.2))))

-- No fragment.
abbrev pub no_fragments : Fragments
no_fragments = record { definitions = []; stores = [] }

-- The fragments with one more.
abbrev pub with_fragment : Fragments → Stored → Fragments
with_fragment earlier fragment = record {
  definitions = earlier.definitions ++ fragment.definition ∷ [];
  stores = earlier.stores ++ fragment.store ∷ [];
}

-- The fragment of one entry more.
abbrev pub adds_fragment : List Dataset → ℕ → Fragments → List Field → Course CatalogueError Fragments
adds_fragment datasets number earlier entry =
    and_then (reads_fragment (record { section = section.Fragment; number = number }) datasets earlier.definitions entry) (λ fragment.
    gives (with_fragment earlier fragment))

-- The fragments of the entries, in order, counted from 1.
abbrev pub reads_fragments : List Dataset → List (List Field) → Course CatalogueError Fragments
reads_fragments datasets entries = each (adds_fragment datasets) 1 no_fragments entries
