-- The names of datasets.
use Rattle.std.specs.Prelude.{◌≡◌, ◌≢◌, ℕ, ◌+◌, ◌<◌, List, [], ◌∷◌, Some, length, map, slice_get, codes, Contains, All, AllPairs}
use Rattle.esto_docmodel.specs.declared.words.DataModel.{DataModel}
use Rattle.esto_docmodel.specs.declared.words.DataModel.TheVariants.{Table, Documents, Keys}
use Rattle.esto_docmodel.specs.declared.words.Word.{Word}

-- The name is that of a dataset of this model, and this is its first relation.
abbrev pub IsBaseOf : List Word → List ℕ → DataModel → ℕ → Type 0
IsBaseOf words name model base =
    (word : Word) × Contains words word × (word.name ≡ name) × (word.model ≡ model) × (word.base ≡ base)

-- The part of this name stands at this place among the relations of a dataset of the model. A table has no parts.
abbrev pub IsPart : DataModel → List ℕ → ℕ → Type 0
IsPart Table part place = ⊥
IsPart Documents part place =
    slice_get (codes "root" ∷ codes "field" ∷ codes "item" ∷ codes "value" ∷ codes "below" ∷ []) place ≡ Some part
IsPart Keys part place = slice_get (codes "pair" ∷ []) place ≡ Some part

-- The name is that of a dataset that has a part of this name, and this is the part's relation.
abbrev pub IsPartOf : List Word → List ℕ → List ℕ → ℕ → Type 0
IsPartOf words name part relation =
    (model : DataModel) × (base place : ℕ) × IsBaseOf words name model base × IsPart model part place × (relation ≡ base + place)

-- The schema, which is the list of the relations' numbers of columns, has from this number on the relations of a dataset: one for a table, five of 1, 3, 2, 2
-- and 2 columns for documents, one of three columns for keys.
abbrev pub HasRelations : List ℕ → DataModel → ℕ → Type 0
HasRelations schema Table base = base < length schema
HasRelations schema Documents base =
    (slice_get schema base ≡ Some 1) × (slice_get schema (base + 1) ≡ Some 3) × (slice_get schema (base + 2) ≡ Some 2)
    × (slice_get schema (base + 3) ≡ Some 2) × (slice_get schema (base + 4) ≡ Some 2)
HasRelations schema Keys base = slice_get schema base ≡ Some 3

-- No two words have one name, and the schema has each word's relations.
pub record IsVocabulary (schema : List ℕ) (words : List Word) : Type 0 where
  pub distinct : AllPairs ◌≢◌ (map (λ word. word.name) words)
  pub relations : All (λ word. HasRelations schema word.model word.base) words
