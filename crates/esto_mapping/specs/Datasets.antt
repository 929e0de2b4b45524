-- Datasets: names, columns, relations and words, and what each dataset keeps.
use Rattle.std.specs.Prelude.{◌≡◌, ◌≢◌, ℕ, ◌+◌, ◌≤◌, List, [], ◌∷◌, ◌++◌, Some, Bool, true, false, ◌&&◌, ◌||◌, nat_le, nat_lt, nat_eq, length, map}
use Rattle.std.specs.Prelude.{codes, AllPairs, slice_get}
use Rattle.std.specs.List.{list_all}
use Rattle.esto_docmodel.specs.declared.file.Layout.TheVariants.{Lines}
use Rattle.esto_query.specs.declared.schema.Relation.{Relation}
use Rattle.esto_docmodel.specs.declared.words.DataModel.{DataModel}
use Rattle.esto_docmodel.specs.declared.words.DataModel.TheVariants.{Table, Documents, Keys}
use Rattle.esto_docmodel.specs.declared.words.Word.{Word}
use Rattle.esto_text.specs.declared.parts.TheConstants.{MAX_NAME}
use Rattle.esto_mapping.specs.declared.dataset.Dataset.{Dataset}
use Rattle.esto_query.specs.declared.schema.TheConstants.{MAX_COLUMNS}
use Rattle.esto_docmodel.specs.Stores.{begins_plain}

-- The byte is an ASCII letter.
abbrev pub is_letter : ℕ → Bool
is_letter byte = (nat_le 65 byte && nat_le byte 90) || (nat_le 97 byte && nat_le byte 122)

-- The byte is an ASCII letter, an ASCII digit or `_`.
abbrev pub is_name_byte : ℕ → Bool
is_name_byte byte = is_letter byte || ((nat_le 48 byte && nat_le byte 57) || nat_eq byte 95)

-- The text is a name: a letter, then letters, digits and `_`, of no more bytes in all than a name may have.
abbrev pub is_name : List ℕ → Bool
is_name [] = false
is_name (first ∷ rest) = is_letter first && (list_all is_name_byte rest && nat_lt (length rest) MAX_NAME)

-- The columns of a table: there is one, and no more than a table may have, no two the same, and no byte-order mark before the first.
pub record AreColumns (columns : List (List ℕ)) : Type 0 where
  pub some : 1 ≤ length columns
  pub few : length columns ≤ MAX_COLUMNS
  pub distinct : AllPairs ◌≢◌ columns
  pub plain : begins_plain columns

-- The name of a part of a dataset: the dataset's, a dot, and the part's own.
abbrev pub part_name : List ℕ → List ℕ → List ℕ
part_name name own = name ++ codes "." ++ own

-- The relation of a part of a dataset.
abbrev pub part : List ℕ → List ℕ → ℕ → Relation
part name own arity = record { name = part_name name own; arity = arity }

-- The relations of a dataset of this name and model, which has so many columns where it is a table.
abbrev pub model_relations : List ℕ → ℕ → DataModel → List Relation
model_relations name columns Table = record { name = name; arity = columns } ∷ []
model_relations name columns Documents =
    part name (codes "root") 1 ∷ part name (codes "field") 3 ∷ part name (codes "item") 2 ∷ part name (codes "value") 2 ∷ part name (codes "below") 2 ∷ []
model_relations name columns Keys = part name (codes "pair") 3 ∷ []

-- The number of relations of a dataset of this model.
abbrev pub relation_count : DataModel → ℕ
relation_count Table = 1
relation_count Documents = 5
relation_count Keys = 1

-- The relations of a dataset, in order.
abbrev pub relations_of : Dataset → List Relation
relations_of dataset = model_relations dataset.name (length dataset.columns) dataset.model

-- The relations of datasets, in order.
abbrev pub schema_of : List Dataset → List Relation
schema_of [] = []
schema_of (dataset ∷ datasets) = relations_of dataset ++ schema_of datasets

-- The relations of the first dataset stand from the base on, and those of each later one from where those before it end.
abbrev pub AreBased : ℕ → List Dataset → Type 0
AreBased base [] = Unit {0}
AreBased base (dataset ∷ datasets) = (dataset.base ≡ base) × AreBased (base + length (relations_of dataset)) datasets

-- The words that name datasets.
abbrev pub words_of : List Dataset → List Word
words_of datasets = map (λ (dataset : Dataset). record { name = dataset.name; model = dataset.model; base = dataset.base }) datasets

-- The columns fit the model: a table has columns, and another model none.
abbrev pub FitModel : DataModel → List (List ℕ) → Type 0
FitModel Table columns = AreColumns columns
FitModel Documents columns = columns ≡ []
FitModel Keys columns = columns ≡ []

-- The schema has these relations one after another, from that number on.
abbrev pub StandFrom : List Relation → ℕ → List Relation → Type 0
StandFrom schema base relations =
    (number : ℕ) (relation : Relation) → slice_get relations number ≡ Some relation → slice_get schema (base + number) ≡ Some relation

-- A dataset has a name, columns that fit its model, the layout of lines where it is no collection of documents, and its relations in the schema from its base
-- on.
pub record IsDataset (schema : List Relation) (dataset : Dataset) : Type 0 where
  pub named : is_name dataset.name ≡ true
  pub columns : FitModel dataset.model dataset.columns
  pub layout : dataset.model ≢ Documents → dataset.layout ≡ Lines
  pub relations : StandFrom schema dataset.base (relations_of dataset)
