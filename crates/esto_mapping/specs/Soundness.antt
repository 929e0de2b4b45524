-- What a catalogue keeps.
use Rattle.std.specs.Prelude.{◌≡◌, ◌≢◌, ℕ, ◌≤◌, List, Some, length, slice_get, AllPairs, Contains}
use Rattle.esto_constraint.specs.Graphs.{IsWithin, AreRanks}
use Rattle.esto_constraint.specs.Relations.{IsEdge}
use Rattle.esto_mapping.specs.Datasets.{IsDataset, words_of}
use Rattle.esto_mapping.specs.declared.catalogue.TheConstants.{MAX_PATTERNS, MAX_WEIGHT}
use Rattle.esto_mapping.specs.declared.dataset.Dataset.{Dataset}
use Rattle.esto_docmodel.specs.declared.file.Store.{Store}
use Rattle.esto_constraint.specs.Constraints.{rule_of, rules_of}
use Rattle.esto_constraint.specs.declared.rule.Constraint.{Constraint}
use Rattle.esto_docmodel.specs.Stores.{IsShapeFor}
use Rattle.esto_query.specs.Making.{query_of}
use Rattle.esto_query.specs.Schemas.{IsSchema, arities_of}
use Rattle.esto_query.specs.declared.schema.Relation.{Relation}
use Rattle.esto_docmodel.specs.Words.{IsVocabulary}
use Rattle.esto_docmodel.specs.declared.words.Word.{Word}
use Rattle.esto_semantics.specs.WellFormed.{IsQueryOver, IsRuleOver}
use Rattle.esto_views.specs.Fragments.{AreFragments}
use Rattle.esto_views.specs.declared.fragments.FragmentDef.{FragmentDef}

-- Each store is in a shape for the fragment of its number.
abbrev pub AreShapes : List Store → List FragmentDef → Type 0
AreShapes stores fragments =
    (number : ℕ) (store : Store) (fragment : FragmentDef) → slice_get stores number ≡ Some store → slice_get fragments number ≡ Some fragment
    → IsShapeFor store.shape fragment.view

-- The relations of each dataset stand in the schema, and the words name the datasets; the fragments are well made, their views are over the schema, each has no
-- more patterns than a fragment may have, no two the same, and weighs no more than a fragment may, and each has a store in a shape for it; the rules, of which
-- the given ones are the first, are over the schema, and the ranks are those of the relations by them.
pub record IsSoundCatalogue (schema : List Relation) (words : List Word) (datasets : List Dataset) (fragments : List FragmentDef) (stores : List Store)
    (rules : List Constraint) (given : ℕ) (ranks : List ℕ) : Type 0 where
  pub schema_is : IsSchema schema
  pub datasets_are : (dataset : Dataset) → Contains datasets dataset → IsDataset schema dataset
  pub named : words ≡ words_of datasets
  pub vocabulary : IsVocabulary (arities_of schema) words
  pub fragments_are : AreFragments fragments
  pub views : (fragment : FragmentDef) → Contains fragments fragment → IsQueryOver (arities_of schema) (query_of fragment.view)
  pub few : (fragment : FragmentDef) → Contains fragments fragment → length fragment.access ≤ MAX_PATTERNS
  pub distinct : (fragment : FragmentDef) → Contains fragments fragment → AllPairs ◌≢◌ fragment.access
  pub light : (fragment : FragmentDef) → Contains fragments fragment → fragment.weight ≤ MAX_WEIGHT
  pub stored : length stores ≡ length fragments
  pub shapes : AreShapes stores fragments
  pub given_are : given ≤ length rules
  pub rules_are : (rule : Constraint) → Contains rules rule → IsRuleOver (arities_of schema) (rule_of rule)
  pub within : IsWithin (length schema) (IsEdge (rules_of rules))
  pub ranks_are : AreRanks (IsEdge (rules_of rules)) (length schema) ranks
