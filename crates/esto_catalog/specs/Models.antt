-- Models and layouts, as they are written, and the keys that not every model has.
use Rattle.std.specs.Prelude.{◌≡◌, ◌≢◌, List, Option, Some, None, false, codes, ℕ}
use Rattle.esto_course.specs.Course.{Course, judges, gives, refuses, demands, and_then}
use Rattle.esto_docmodel.specs.declared.file.Layout.{Layout}
use Rattle.esto_docmodel.specs.declared.file.Layout.TheVariants.{Array, Lines}
use Rattle.esto_docmodel.specs.declared.words.DataModel.{DataModel}
use Rattle.esto_docmodel.specs.declared.words.DataModel.TheVariants.{Table, Documents, Keys}
use Rattle.esto_catalog.specs.Rows.{fault_at, needs_text}
use Rattle.esto_settings.specs.Settings.{has_key, setting_at}
use Rattle.esto_catalog.specs.declared.fault.CatalogueError.{CatalogueError}
use Rattle.esto_status.specs.declared.fault.CatalogueKind.{CatalogueKind}
use Rattle.esto_status.specs.declared.fault.CatalogueKind.TheVariants.{BadLayout, Unfit, WrongType}
use Rattle.esto_catalog.specs.declared.fault.Place.{Place}
use Rattle.esto_settings.specs.declared.setting.Field.{Field}
use Rattle.esto_settings.specs.declared.setting.Setting.{Setting}
use Rattle.esto_settings.specs.declared.setting.Setting.TheVariants.{Text}

-- The word for a model.
abbrev pub model_word : DataModel → List ℕ
model_word Table = codes "table"
model_word Documents = codes "documents"
model_word Keys = codes "keys"

-- The word for a layout.
abbrev pub layout_word : Layout → List ℕ
layout_word Array = codes "array"
layout_word Lines = codes "lines"

-- The text is the word for a model; else a fault of this kind at the key.
abbrev pub reads_model : CatalogueKind → Place → List ℕ → List ℕ → Course CatalogueError DataModel
reads_model kind place key text =
    judges (λ model. text ≡ model_word model) (λ error. ((model : DataModel) → text ≢ model_word model) × (error ≡ fault_at kind place key))

-- A model is needed at the key; where the text is the word for none it is a fault of this kind.
abbrev pub needs_model : CatalogueKind → Place → List ℕ → List Field → Course CatalogueError DataModel
needs_model kind place key entry = and_then (needs_text place key (setting_at key entry)) (λ text. reads_model kind place key text)

-- The text is the word for a layout; else BadLayout.
abbrev pub reads_layout : Place → List ℕ → Course CatalogueError Layout
reads_layout place text =
    judges (λ layout. text ≡ layout_word layout)
    (λ error. ((layout : Layout) → text ≢ layout_word layout) × (error ≡ fault_at BadLayout place (codes "layout")))

-- The layout may be absent, and is then one document a line. Else it is the word for one.
abbrev pub allows_layout : Place → Option Setting → Course CatalogueError Layout
allows_layout place None = gives Lines
allows_layout place (Some (Text text)) = reads_layout place text
allows_layout place (Some _) = refuses (fault_at WrongType place (codes "layout"))

-- The key is absent, since it is for other models; else Unfit.
abbrev pub unfit_row : List ℕ → Place → List Field → Course CatalogueError (Unit {0})
unfit_row key place entry = demands (has_key key entry ≡ false) (fault_at Unfit place key)

-- No layout is written, and it counts as one document a line; else Unfit.
abbrev pub no_layout : Place → List Field → Course CatalogueError Layout
no_layout place entry = and_then (unfit_row (codes "layout") place entry) (λ _. gives Lines)

-- The layout of documents; another model has none.
abbrev pub layout_row : Place → DataModel → List Field → Course CatalogueError Layout
layout_row place Table entry = no_layout place entry
layout_row place Documents entry = allows_layout place (setting_at (codes "layout") entry)
layout_row place Keys entry = no_layout place entry
