-- What a catalogue that is read keeps of its datasets: their relations one after another, and the rules of their encodings.
use Rattle.std.specs.Prelude.{◌≡◌, ℕ, List, length}
use Rattle.esto_constraint.specs.declared.rule.Constraint.{Constraint}
use Rattle.esto_text.specs.declared.version.Version.{Version}
use Rattle.esto_mapping.specs.Datasets.{AreBased, schema_of}
use Rattle.esto_catalog.specs.Reading.{IsCatalogueOf}
use Rattle.esto_catalog.specs.Rules.{AreAllRules}
use Rattle.esto_mapping.specs.declared.catalogue.Catalogue.{Catalogue}

-- The catalogue's relations are those of its datasets, one dataset after another.
pub record HasRelations (catalogue : Catalogue) : Type 0 where
  pub schema : catalogue.schema ≡ schema_of catalogue.datasets
  pub bases : AreBased 0 catalogue.datasets

-- The catalogue's rules are its own constraints, as many as it counts, and then those of the encodings of its datasets in some version, whose variables are
-- named as those rules are written.
pub record HasEncodings (catalogue : Catalogue) : Type 0 where
  pub version : Version
  pub own : List Constraint
  pub counted : catalogue.given ≡ length own
  pub rules : AreAllRules version catalogue.datasets own catalogue.rules

-- A catalogue that bytes say has its relations.
abbrev pub ReadingsHaveRelations : Type 0
ReadingsHaveRelations = (bytes : List ℕ) (catalogue : Catalogue) → IsCatalogueOf bytes catalogue → HasRelations catalogue

-- A catalogue that bytes say has its encodings.
abbrev pub ReadingsHaveEncodings : Type 0
ReadingsHaveEncodings = (bytes : List ℕ) (catalogue : Catalogue) → IsCatalogueOf bytes catalogue → HasEncodings catalogue
