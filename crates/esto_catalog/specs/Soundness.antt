-- What the parts of a catalogue keep that is read.
use Rattle.std.specs.Prelude.{◌≡◌, ◌≢◌, ℕ, ◌≤◌, List, length, AllPairs, Contains}
use Rattle.esto_mapping.specs.declared.catalogue.TheConstants.{MAX_PATTERNS, MAX_WEIGHT}
use Rattle.esto_constraint.specs.Constraints.{rule_of}
use Rattle.esto_constraint.specs.declared.rule.Constraint.{Constraint}
use Rattle.esto_query.specs.Making.{query_of}
use Rattle.esto_catalog.specs.declared.fragment.Fragments.{Fragments}
use Rattle.esto_catalog.specs.declared.fragment.Stored.{Stored}
use Rattle.esto_read.specs.Readings.{HasVariables}
use Rattle.esto_read.specs.declared.read.Form.TheVariants.{View}
use Rattle.esto_read.specs.declared.read.NamedQuery.{NamedQuery}
use Rattle.esto_semantics.specs.WellFormed.{IsQueryOver, IsRuleOver}
use Rattle.esto_views.specs.Fragments.{IsFragment}
use Rattle.esto_views.specs.declared.fragments.FragmentDef.{FragmentDef}
use Rattle.esto_mapping.specs.Soundness.{AreShapes}
use Rattle.esto_docmodel.specs.Stores.{IsShapeFor}

-- A view is over the schema, and its head is of distinct variables.
abbrev pub IsSoundView : List ℕ → NamedQuery → Type 0
IsSoundView schema view = IsQueryOver schema (query_of view.query) × HasVariables View view.query.head

-- A fragment is well made, and its view is over the schema. It has no more patterns than a fragment may have, and no two are the same; it weighs no more than a
-- fragment may weigh.
pub record IsSoundFragment (schema : List ℕ) (fragment : FragmentDef) : Type 0 where
  pub made : IsFragment fragment
  pub view : IsQueryOver schema (query_of fragment.view)
  pub few : length fragment.access ≤ MAX_PATTERNS
  pub distinct : AllPairs ◌≢◌ fragment.access
  pub light : fragment.weight ≤ MAX_WEIGHT

-- Each rule is over the schema.
abbrev pub AreSoundRules : List ℕ → List Constraint → Type 0
AreSoundRules schema rules = (rule : Constraint) → Contains rules rule → IsRuleOver schema (rule_of rule)

-- A fragment is sound, and is stored in a shape for it.
pub record IsSoundStored (schema : List ℕ) (stored : Stored) : Type 0 where
  pub definition : IsSoundFragment schema stored.definition
  pub shape : IsShapeFor stored.store.shape stored.definition.view

-- Each fragment is sound, and each has a store in a shape for it.
pub record AreSoundFragments (schema : List ℕ) (fragments : Fragments) : Type 0 where
  pub sound : (fragment : FragmentDef) → Contains fragments.definitions fragment → IsSoundFragment schema fragment
  pub stored : length fragments.stores ≡ length fragments.definitions
  pub shapes : AreShapes fragments.stores fragments.definitions
