-- The rows of a constraint.
use Rattle.std.specs.Prelude.{◌≡◌, ℕ, List, [], ◌∷◌, ◌++◌, codes}
use Rattle.esto_constraint.specs.declared.rule.Constraint.{Constraint}
use Rattle.esto_course.specs.Course.{Course, judges, gives, and_then, each}
use Rattle.esto_query.specs.Schemas.{arities_of}
use Rattle.esto_read.specs.Constraints.{IsConstraintReading, IsConstraintFault}
use Rattle.esto_text.specs.declared.fault.TextFault.{TextFault}
use Rattle.esto_text.specs.declared.version.Version.{Version}
use Rattle.esto_mapping.specs.Datasets.{schema_of, words_of}
use Rattle.esto_catalog.specs.Rows.{text_fault_at, knows_keys, needs_text}
use Rattle.esto_settings.specs.Settings.{setting_at}
use Rattle.esto_mapping.specs.declared.dataset.Dataset.{Dataset}
use Rattle.esto_catalog.specs.declared.fault.CatalogueError.{CatalogueError}
use Rattle.esto_catalog.specs.declared.fault.Place.{Place}
use Rattle.esto_status.specs.declared.fault.Section.TheVariants as section
use Rattle.esto_settings.specs.declared.setting.Field.{Field}
use Rattle.esto_catalog.specs.declared.row.Keys.TheVariants as keys

-- The text is a constraint of this version over the datasets' relations; else BadText with the text's first fault.
abbrev pub reads_rule : Version → Place → List Dataset → List ℕ → Course CatalogueError Constraint
reads_rule version place datasets text =
    judges (λ rule. IsConstraintReading version (words_of datasets) (arities_of (schema_of datasets)) text rule)
    (λ error. (fault : TextFault) × IsConstraintFault version (words_of datasets) (arities_of (schema_of datasets)) text fault
    × (error ≡ text_fault_at fault place (codes "rule")))

-- The rows of a constraint, in order: unknown keys, rule. The rule is needed: a constraint's text.
abbrev pub reads_constraint : Version → Place → List Dataset → List Field → Course CatalogueError Constraint
reads_constraint version place datasets entry =
    and_then (knows_keys place keys.Constraint entry) (λ _.
    and_then (needs_text place (codes "rule") (setting_at (codes "rule") entry)) (λ text.
    reads_rule version place datasets text))

-- One constraint more.
abbrev pub adds_constraint : Version → List Dataset → ℕ → List Constraint → List Field → Course CatalogueError (List Constraint)
adds_constraint version datasets number earlier entry =
    and_then (reads_constraint version (record { section = section.Constraint; number = number }) datasets entry) (λ rule.
    gives (earlier ++ rule ∷ []))

-- The constraints of the entries, in order, counted from 1.
abbrev pub reads_constraints : Version → List Dataset → List (List Field) → Course CatalogueError (List Constraint)
reads_constraints version datasets entries = each (adds_constraint version datasets) 1 [] entries
