-- What each catalogue keeps, and when two catalogues say the same.
use Rattle.std.specs.Prelude.{◌≡◌, ℕ, List, map}
use Rattle.esto_mapping.specs.Soundness.{IsSoundCatalogue}
use Rattle.esto_mapping.specs.declared.catalogue.Catalogue.{Catalogue}
use Rattle.esto_docmodel.specs.declared.file.Shape.{Shape}
use Rattle.esto_docmodel.specs.declared.file.Shape.TheVariants.{Table, Documents, Keys}
use Rattle.esto_docmodel.specs.declared.file.Store.{Store}
use Rattle.esto_constraint.specs.Constraints.{rules_of}
use Rattle.esto_constraint.specs.EncodingRules.{written}
use Rattle.esto_docmodel.specs.Patterns.{Entries}
use Rattle.esto_docmodel.specs.Shapes.{entries_of}
use Rattle.esto_docmodel.specs.declared.file.Layout.{Layout}
use Rattle.esto_views.specs.Fragments.{views_of, patterns_of, weights_of}

-- Each catalogue keeps what a catalogue keeps.
abbrev pub CataloguesAreSound : Type 0
CataloguesAreSound = (it : Catalogue) → IsSoundCatalogue it.schema it.words it.datasets it.fragments it.stores it.rules it.given it.ranks

-- How rows are stored, where a pattern counts by its entries: as a table of these columns, as documents, or as keys; and in which file.
pub data StoredAs : Type 0 where
  as_table : List (List ℕ) → List ℕ → StoredAs
  as_documents : Layout → Entries → List ℕ → StoredAs
  as_keys : List ℕ → StoredAs

-- How rows of a shape are stored in a file, where a pattern counts by its entries.
abbrev pub shape_as : Shape → List ℕ → StoredAs
shape_as (Table columns) file = as_table columns file
shape_as (Documents layout pattern) file = as_documents layout (entries_of pattern.entries) file
shape_as Keys file = as_keys file

-- How rows are stored in a store.
abbrev pub stored_as : Store → StoredAs
stored_as store = shape_as store.shape store.file

-- Two catalogues say the same.
pub record AreSame (catalogue other : Catalogue) : Type 0 where
  pub schema : catalogue.schema ≡ other.schema
  pub words : catalogue.words ≡ other.words
  pub datasets : catalogue.datasets ≡ other.datasets
  pub names : map (λ fragment. fragment.name) catalogue.fragments ≡ map (λ fragment. fragment.name) other.fragments
  pub views : views_of catalogue.fragments ≡ views_of other.fragments
  pub patterns : patterns_of catalogue.fragments ≡ patterns_of other.fragments
  pub weights : weights_of catalogue.fragments ≡ weights_of other.fragments
  pub stores : map stored_as catalogue.stores ≡ map stored_as other.stores
  pub rules : rules_of catalogue.rules ≡ rules_of other.rules
  pub rule_names : map written catalogue.rules ≡ map written other.rules
  pub given : catalogue.given ≡ other.given
  pub ranks : catalogue.ranks ≡ other.ranks
  pub core : catalogue.core ≡ other.core
