-- The rows of the whole file, before its entries.
use Rattle.std.specs.Prelude.{◌≡◌, ℕ, ◌≤◌, pos, Bool, false, if◌then◌else◌, List, [], Option, Some, None, length, codes}
use Rattle.std.specs.Ordering.{int_eq}
use Rattle.esto_course.specs.Course.{Course, judges, gives, refuses, demands, and_then}
use Rattle.esto_text.specs.declared.version.Version.{Version}
use Rattle.esto_text.specs.declared.version.Version.TheVariants.{One, Two}
use Rattle.esto_catalog.specs.Rows.{fault_at, top, knows_keys}
use Rattle.esto_settings.specs.Settings.{IsDocument, HasNoTable, setting_at}
use Rattle.esto_catalog.specs.declared.fault.CatalogueError.{CatalogueError}
use Rattle.esto_status.specs.declared.fault.CatalogueKind.TheVariants.{Toml, Version as NoVersion, WrongType, TooMany}
use Rattle.esto_settings.specs.declared.setting.Document.{Document}
use Rattle.esto_settings.specs.declared.setting.Field.{Field}
use Rattle.esto_settings.specs.declared.setting.Setting.{Setting}
use Rattle.esto_settings.specs.declared.setting.Setting.TheVariants.{Integer}
use Rattle.esto_catalog.specs.declared.row.Keys.{Keys}
use Rattle.esto_catalog.specs.declared.row.Keys.TheVariants.{Top, TopOfTwo}
use Rattle.esto_catalog.specs.declared.whole.Sections.{Sections}
use Rattle.esto_catalog.specs.declared.whole.TheConstants.{MAX_ENTRIES}

-- The bytes are UTF-8, and TOML; else Toml.
abbrev pub reads_toml : List ℕ → Course CatalogueError Document
reads_toml bytes = judges (IsDocument bytes) (λ error. HasNoTable bytes × (error ≡ fault_at Toml top (codes "-")))

-- The version is set to the integer 2.
abbrev pub is_two : Option Setting → Bool
is_two (Some (Integer number)) = int_eq number (pos 2)
is_two _ = false

-- The keys of the top, where the version is set so: `core` is one of version 2.
abbrev pub top_keys : Option Setting → Keys
top_keys setting = if is_two setting then TopOfTwo else Top

-- The number of a version.
abbrev pub number_of : Version → ℕ
number_of One = 1
number_of Two = 2

-- The version is set to the integer 1 or 2; else Version.
abbrev pub reads_version : Option Setting → Course CatalogueError Version
reads_version setting =
    judges (λ version. setting ≡ Some (Integer (pos (number_of version))))
    (λ error. ((version : Version) → ¬ (setting ≡ Some (Integer (pos (number_of version))))) × (error ≡ fault_at NoVersion top (codes "version")))

-- The core of the plan is asked for or not; else WrongType.
abbrev pub reads_core : Option Bool → Course CatalogueError Bool
reads_core None = refuses (fault_at WrongType top (codes "core"))
reads_core (Some core) = gives core

-- A section is an array of tables; else WrongType. It has no more entries than a section may have; else TooMany.
abbrev pub fits_section : List ℕ → Option (List (List Field)) → Course CatalogueError (Unit {0})
fits_section key None = refuses (fault_at WrongType top key)
fits_section key (Some tables) = demands (length tables ≤ MAX_ENTRIES) (fault_at TooMany top key)

-- The rows of the sections, in order: of datasets, of fragments and of constraints.
abbrev pub fits_sections : Document → Course CatalogueError (Unit {0})
fits_sections document =
    and_then (and_then (fits_section (codes "dataset") document.datasets) (λ _. fits_section (codes "fragment") document.fragments)) (λ _.
    fits_section (codes "constraint") document.constraints)

-- The rows of the top, in order: unknown keys, the version, whether the core is asked for, the sections of datasets, of fragments and of constraints. They give
-- the version and whether the core is asked for.
abbrev pub reads_top : Document → Course CatalogueError (Version × Bool)
reads_top document =
    and_then (knows_keys top (top_keys (setting_at (codes "version") document.fields)) document.fields) (λ _.
    and_then (reads_version (setting_at (codes "version") document.fields)) (λ version.
    and_then (reads_core document.core) (λ core.
    and_then (fits_section (codes "dataset") document.datasets) (λ _.
    and_then (fits_section (codes "fragment") document.fragments) (λ _.
    and_then (fits_section (codes "constraint") document.constraints) (λ _.
    gives (version, core)))))))

-- The tables of a section, or none where it is no array of tables.
abbrev pub tables_of : Option (List (List Field)) → List (List Field)
tables_of None = []
tables_of (Some tables) = tables

-- The entries of the document's sections, with the version and whether the core is asked for.
abbrev pub sections_of : Version → Bool → Document → Sections
sections_of version core document = record {
  version = version;
  core = core;
  datasets = tables_of document.datasets;
  fragments = tables_of document.fragments;
  constraints = tables_of document.constraints;
}

-- The rows of the whole file before its entries, in order: TOML, unknown keys, the version, whether the core is asked for, the sections of datasets, of
-- fragments and of constraints.
abbrev pub reads_whole : List ℕ → Course CatalogueError Sections
reads_whole bytes =
    and_then (reads_toml bytes) (λ document.
    and_then (reads_top document) (λ found.
    gives (sections_of found.0 found.1 document)))
