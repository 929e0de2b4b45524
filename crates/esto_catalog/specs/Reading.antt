-- What the bytes of a catalogue say, and what is wrong with them.
use Rattle.std.specs.Prelude.{◌≡◌, ℕ, Bool, List, length}
use Rattle.esto_constraint.specs.Graphs.{IsAcyclic, AreRanks, IsLeastCycle}
use Rattle.esto_acyclic.specs.Relations.{AreNamesOf}
use Rattle.esto_constraint.specs.Relations.{IsEdge}
use Rattle.esto_constraint.specs.declared.ranks.Cycle.{Cycle}
use Rattle.esto_constraint.specs.declared.rule.Constraint.{Constraint}
use Rattle.esto_course.specs.Course.{Course, judges, gives, and_then}
use Rattle.esto_semantics.specs.Rules.{Rule}
use Rattle.esto_text.specs.declared.version.Version.{Version}
use Rattle.esto_catalog.specs.Constraints.{reads_constraints}
use Rattle.esto_catalog.specs.Datasets.{reads_datasets}
use Rattle.esto_mapping.specs.Datasets.{schema_of, words_of}
use Rattle.esto_catalog.specs.Fragments.{reads_fragments}
use Rattle.esto_catalog.specs.Rules.{AreAllRules, all_rules}
use Rattle.esto_catalog.specs.Whole.{reads_whole}
use Rattle.esto_mapping.specs.declared.catalogue.Catalogue.{Catalogue}
use Rattle.esto_mapping.specs.declared.dataset.Dataset.{Dataset}
use Rattle.esto_catalog.specs.declared.fault.CatalogueError.{CatalogueError}
use Rattle.esto_catalog.specs.declared.fault.CatalogueError.TheVariants.{NotAcyclic, OutOfMemory}
use Rattle.esto_catalog.specs.declared.fragment.Fragments.{Fragments}
use Rattle.esto_catalog.specs.declared.walk.Ranked.{Ranked}
use Rattle.esto_catalog.specs.declared.whole.Sections.{Sections}

-- The rules are the constraints, which are counted, and then those of the encodings; no relation leads back to itself by them, and the ranks are those of the
-- relations by them.
pub record IsRankedOf (version : Version) (datasets : List Dataset) (given : List Constraint) (ranked : Ranked) : Type 0 where
  pub rules : AreAllRules version datasets given ranked.rules
  pub given_are : ranked.given ≡ length given
  pub acyclic : IsAcyclic (IsEdge (all_rules version datasets given))
  pub ranks : AreRanks (IsEdge (all_rules version datasets given)) (length (schema_of datasets)) ranked.ranks

-- It is the least cycle of the graph of the rules, with the names of its relations.
abbrev pub IsCycleOf : List Dataset → List Rule → Cycle → Type 0
IsCycleOf datasets rules cycle = IsLeastCycle (IsEdge rules) cycle.relations × AreNamesOf (schema_of datasets) cycle.relations cycle.names

-- All the rules with their ranks, where no relation leads back to itself by them; else NotAcyclic with the least cycle.
abbrev pub is_ranked : Version → List Dataset → List Constraint → Course CatalogueError Ranked
is_ranked version datasets given =
    judges (IsRankedOf version datasets given)
    (λ error. (cycle : Cycle) × IsCycleOf datasets (all_rules version datasets given) cycle × (error ≡ NotAcyclic cycle))

-- The rows of the rules, in order: constraints; then the graph of the rules.
abbrev pub reads_ranked : Sections → List Dataset → Course CatalogueError Ranked
reads_ranked sections datasets =
    and_then (reads_constraints sections.version datasets sections.constraints) (λ given. is_ranked sections.version datasets given)

-- The rows after those of the datasets, in order: fragments, constraints; then the graph of the rules.
abbrev pub reads_fragments_and_rules : Sections → List Dataset → Course CatalogueError (Fragments × Ranked)
reads_fragments_and_rules sections datasets =
    and_then (reads_fragments datasets sections.fragments) (λ fragments.
    and_then (reads_ranked sections datasets) (λ ranked.
    gives (fragments, ranked)))

-- The catalogue of these datasets, fragments and ranked rules, that asks for the core of the plan or not: its relations and words are the datasets'.
pub record IsMadeOf (core : Bool) (datasets : List Dataset) (fragments : Fragments) (ranked : Ranked) (catalogue : Catalogue) : Type 0 where
  pub schema : catalogue.schema ≡ schema_of datasets
  pub words : catalogue.words ≡ words_of datasets
  pub same_datasets : catalogue.datasets ≡ datasets
  pub definitions : catalogue.fragments ≡ fragments.definitions
  pub stores : catalogue.stores ≡ fragments.stores
  pub rules : catalogue.rules ≡ ranked.rules
  pub given : catalogue.given ≡ ranked.given
  pub ranks : catalogue.ranks ≡ ranked.ranks
  pub core_is : catalogue.core ≡ core

-- The catalogue that is made of these. It is never refused.
abbrev pub makes_catalogue : Bool → List Dataset → Fragments → Ranked → Course CatalogueError Catalogue
makes_catalogue core datasets fragments ranked = judges (IsMadeOf core datasets fragments ranked) (λ _. ⊥)

-- The rows of the sections, in order: datasets, fragments, constraints; then the graph of the rules.
abbrev pub reads_sections : Sections → Course CatalogueError Catalogue
reads_sections sections =
    and_then (reads_datasets sections.datasets) (λ datasets.
    and_then (reads_fragments_and_rules sections datasets) (λ found.
    makes_catalogue sections.core datasets found.0 found.1))

-- The walk over the rows, in order: the whole file, datasets, fragments, constraints; then the graph of the rules.
abbrev pub reads_catalogue : List ℕ → Course CatalogueError Catalogue
reads_catalogue bytes = and_then (reads_whole bytes) reads_sections

-- The bytes say this catalogue: with it the walk ends.
abbrev pub IsCatalogueOf : List ℕ → Catalogue → Type 0
IsCatalogueOf bytes catalogue = (reads_catalogue bytes).goes catalogue

-- The bytes say no catalogue for this cause: at it the walk stops, or memory is wanting.
abbrev pub IsCatalogueError : List ℕ → CatalogueError → Type 0
IsCatalogueError bytes OutOfMemory = Unit {0}
IsCatalogueError bytes error = (reads_catalogue bytes).stops error
