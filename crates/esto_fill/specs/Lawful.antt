-- Rules that the facts of documents meet by law.
use Rattle.std.specs.Prelude.{◌≡◌, ℕ, ◌+◌, ◌<◌, ◌≤◌, List, Some, slice_get, Contains}
use Rattle.esto_mapping.specs.Datasets.{relation_count}
use Rattle.esto_mapping.specs.declared.dataset.Dataset.{Dataset}
use Rattle.esto_semantics.specs.DocumentRules.{document_rules_2}
use Rattle.esto_docmodel.specs.declared.words.DataModel.TheVariants.{Documents}
use Rattle.esto_semantics.specs.Rules.{Rule}
use Rattle.esto_fill.specs.Files.{HasRelation}

-- The relation is one of the five from the base on.
abbrev pub IsAmong : ℕ → ℕ → Type 0
IsAmong base relation = (base ≤ relation) × (relation < base + 5)

-- The dataset of that number is one of documents, whose relations stand from the base on, and no other dataset has one of them.
pub record AreAlone (datasets : List Dataset) (number base : ℕ) : Type 0 where
  pub dataset : Dataset
  pub there : slice_get datasets number ≡ Some dataset
  pub model : dataset.model ≡ Documents
  pub based : dataset.base ≡ base
  pub alone : (other relation : ℕ) → HasRelation datasets other relation → IsAmong base relation → other ≡ number

-- Each of the rules is one of documents whose relations no other dataset has.
abbrev pub AreLaws : List Dataset → List Rule → Type 0
AreLaws datasets rules =
    (rule : Rule) → Contains rules rule → (number base : ℕ) × AreAlone datasets number base × Contains (document_rules_2 base) rule

-- ---- for private clauses

-- The relation is one of the dataset's.
abbrev pub IsOf : Dataset → ℕ → Type 0
IsOf dataset relation = (place : ℕ) × (place < relation_count dataset.model) × (relation ≡ dataset.base + place)

-- No relation is one of both datasets.
abbrev pub HaveNoneInCommon : Dataset → Dataset → Type 0
HaveNoneInCommon dataset other = (relation : ℕ) → IsOf dataset relation → IsOf other relation → ⊥

-- No dataset but that of the number has a relation of this one.
abbrev pub IsAlone : List Dataset → ℕ → Dataset → Type 0
IsAlone datasets number dataset =
    (other : ℕ) (its : Dataset) → slice_get datasets other ≡ Some its → (other ≡ number → ⊥) → HaveNoneInCommon dataset its

-- Where the rules that were there are laws, those that are there now are.
abbrev pub KeepLaws : List Dataset → List Rule → List Rule → Type 0
KeepLaws datasets old new = AreLaws datasets old → AreLaws datasets new
