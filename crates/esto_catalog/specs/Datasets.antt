-- The rows of a dataset, and what all datasets keep.
use Rattle.std.specs.Prelude.{◌≡◌, ◌≢◌, ℕ, ◌≤◌, List, [], ◌∷◌, ◌++◌, Option, Bool, true, false, length, map, codes, AllPairs, Contains}
use Rattle.std.specs.List.{list_any}
use Rattle.esto_course.specs.Course.{Course, gives, demands, and_then, each}
use Rattle.esto_docmodel.specs.declared.file.Layout.{Layout}
use Rattle.esto_docmodel.specs.declared.words.DataModel.{DataModel}
use Rattle.esto_docmodel.specs.declared.words.DataModel.TheVariants.{Table, Documents, Keys}
use Rattle.esto_catalog.specs.Models.{layout_row, needs_model, unfit_row}
use Rattle.esto_catalog.specs.Rows.{fault_at, knows_keys, needs_text, needs_texts, allows_text}
use Rattle.esto_settings.specs.Settings.{is_same, setting_at}
use Rattle.esto_mapping.specs.declared.dataset.Dataset.{Dataset}
use Rattle.esto_catalog.specs.declared.fault.CatalogueError.{CatalogueError}
use Rattle.esto_status.specs.declared.fault.CatalogueKind.TheVariants.{BadName, SameName, BadModel, BadColumns}
use Rattle.esto_catalog.specs.declared.fault.Place.{Place}
use Rattle.esto_status.specs.declared.fault.Section.TheVariants as section
use Rattle.esto_settings.specs.declared.setting.Field.{Field}
use Rattle.esto_catalog.specs.declared.whole.TheConstants.{MAX_ENTRIES}
use Rattle.esto_catalog.specs.declared.row.Keys.TheVariants as keys
use Rattle.esto_mapping.specs.Datasets.{is_name, AreColumns, schema_of, IsDataset}

-- A dataset has the name.
abbrev pub has_dataset : List ℕ → List Dataset → Bool
has_dataset name datasets = list_any (λ (dataset : Dataset). is_same dataset.name name) datasets

-- The name is needed: a name, and no earlier dataset's.
abbrev pub name_row : Place → List Dataset → List Field → Course CatalogueError (List ℕ)
name_row place earlier entry =
    and_then (needs_text place (codes "name") (setting_at (codes "name") entry)) (λ name.
    and_then (demands (is_name name ≡ true) (fault_at BadName place (codes "name"))) (λ _.
    and_then (demands (has_dataset name earlier ≡ false) (fault_at SameName place (codes "name"))) (λ _.
    gives name)))

-- The columns are needed, and are columns of a table.
abbrev pub needs_columns : Place → List Field → Course CatalogueError (List (List ℕ))
needs_columns place entry =
    and_then (needs_texts place (codes "columns") (setting_at (codes "columns") entry)) (λ columns.
    and_then (demands (AreColumns columns) (fault_at BadColumns place (codes "columns"))) (λ _.
    gives columns))

-- No columns are written; else Unfit.
abbrev pub no_columns : Place → List Field → Course CatalogueError (List (List ℕ))
no_columns place entry = and_then (unfit_row (codes "columns") place entry) (λ _. gives [])

-- The columns of a table; another model has none.
abbrev pub columns_row : Place → DataModel → List Field → Course CatalogueError (List (List ℕ))
columns_row place Table entry = needs_columns place entry
columns_row place Documents entry = no_columns place entry
columns_row place Keys entry = no_columns place entry

-- The file may be absent.
abbrev pub dataset_file_row : Place → List Field → Course CatalogueError (Option (List ℕ))
dataset_file_row place entry = allows_text place (codes "file") (setting_at (codes "file") entry)

-- The rows of how a dataset's documents stand and of its file, in order: layout, file.
abbrev pub layout_and_file_rows : Place → DataModel → List Field → Course CatalogueError (Layout × Option (List ℕ))
layout_and_file_rows place model entry =
    and_then (layout_row place model entry) (λ layout.
    and_then (dataset_file_row place entry) (λ file.
    gives (layout, file)))

-- The rows after the name, in order: model, columns, layout, file.
abbrev pub rows_after_name : Place → List Field → Course CatalogueError (DataModel × List (List ℕ) × Layout × Option (List ℕ))
rows_after_name place entry =
    and_then (needs_model BadModel place (codes "model") entry) (λ model.
    and_then (columns_row place model entry) (λ columns.
    and_then (layout_and_file_rows place model entry) (λ last.
    gives (model, columns, last.0, last.1))))

-- The dataset of this name whose first relation is that of the base, with what the rows after its name gave.
abbrev pub dataset_of : List ℕ → ℕ → DataModel × List (List ℕ) × Layout × Option (List ℕ) → Dataset
dataset_of name base rest = record { name = name; model = rest.0; base = base; columns = rest.1; layout = rest.2; file = rest.3 }

-- The rows of a dataset, in order: unknown keys, name, model, columns, layout, file. Its first relation comes after those of the datasets before.
abbrev pub reads_dataset : Place → List Dataset → List Field → Course CatalogueError Dataset
reads_dataset place earlier entry =
    and_then (knows_keys place keys.Dataset entry) (λ _.
    and_then (name_row place earlier entry) (λ name.
    and_then (rows_after_name place entry) (λ rest.
    gives (dataset_of name (length (schema_of earlier)) rest))))

-- One dataset more.
abbrev pub adds_dataset : ℕ → List Dataset → List Field → Course CatalogueError (List Dataset)
adds_dataset number earlier entry =
    and_then (reads_dataset (record { section = section.Dataset; number = number }) earlier entry) (λ dataset.
    gives (earlier ++ dataset ∷ []))

-- The datasets of the entries, in order, counted from 1.
abbrev pub reads_datasets : List (List Field) → Course CatalogueError (List Dataset)
reads_datasets entries = each adds_dataset 1 [] entries

-- Each dataset is one over the relations of all, no two have one name, and there are no more than a section may have entries.
pub record AreDatasets (datasets : List Dataset) : Type 0 where
  pub distinct : AllPairs ◌≢◌ (map (λ (dataset : Dataset). dataset.name) datasets)
  pub sound : (dataset : Dataset) → Contains datasets dataset → IsDataset (schema_of datasets) dataset
  pub room : length datasets ≤ MAX_ENTRIES
