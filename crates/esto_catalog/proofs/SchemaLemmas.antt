-- The relations of datasets are a schema, and their words a vocabulary.
use Rattle.std.proofs.Common.{◌≡◌, ◌≢◌, ◌<◌, ◌+◌, ℕ, List, [], ◌∷◌, ◌++◌, length, take, drop, get_or, Some, inl, inr, refl, sym, ap, subst, ◌∙◌, arith, codes}
use Rattle.std.proofs.Common.{length-append}
use Rattle.std.proofs.Math.ListN.{get_or-append}
use Rattle.std.proofs.Math.Seq.{get_or-append_seam}
use Rattle.std.specs.Prelude.{Contains, All, AllPairs, slice_get}
use Rattle.std.proofs.lemmas.List.{append-nil, append_assoc, map-append, take-append-drop}
use Rattle.std.proofs.lemmas.List.Elements.{Contains-append_cases, Contains-get_or, Contains-push}
use Rattle.std.proofs.lemmas.Option.{slice_get_within}
use Rattle.esto_query.specs.Schemas.{IsArity, IsSchema, arities_of, names_of}
use Rattle.esto_query.specs.declared.schema.Relation.{Relation}
use Rattle.esto_docmodel.specs.Words.{HasRelations, IsVocabulary}
use Rattle.esto_docmodel.specs.declared.words.DataModel.{DataModel}
use Rattle.esto_docmodel.specs.declared.words.DataModel.TheVariants.{Table, Documents, Keys}
use Rattle.esto_docmodel.specs.declared.words.Word.{Word}
use Rattle.esto_term.proofs.ChoiceLemmas.{pairs_head, pairs_tail}
use Rattle.esto_term.proofs.ListLemmas.{Contains-cases, Contains-map, Contains-map_from, Contains-nil, Contains-rest, Contains-head, map_at, map_then}
use Rattle.esto_term.proofs.PlaceLemmas.{take-item}
use Rattle.esto_catalog.proofs.DatasetLemmas.{AreSet, datasets_set, schema_append, schema_more, schema_most}
use Rattle.esto_catalog.proofs.NameLemmas.{names_apart}
use Rattle.esto_catalog.specs.Datasets.{AreDatasets}
use Rattle.esto_mapping.specs.Datasets.{FitModel, StandFrom, model_relations, part, relations_of, schema_of, words_of}
use Rattle.esto_catalog.specs.Scope.{IsScope}
use Rattle.esto_mapping.specs.declared.dataset.Dataset.{Dataset}
use Rattle.esto_catalog.specs.declared.scope.Scope.{Scope}

all_from : {A : Type 0} (P : A → Type 0) (items : List A) → ((item : A) → Contains items item → P item) → All P items
all_from P items each_item k d below = each_item _ (Contains-get_or items k d below)

-- ---- the relations

relations_sized : (name : List ℕ) (model : DataModel) (columns : List (List ℕ)) → FitModel model columns → (relation : Relation)
    → Contains (model_relations name (length columns) model) relation → IsArity relation.arity
relations_sized name Table columns fit relation inside = elim (Contains-cases _ [] relation inside) [
  | inl same ↦ let is : length columns ≡ relation.arity = ap (λ (r : Relation). r.arity) same in (omega (arith, fit.some, is), omega (arith, fit.few, is))
  | inr later ↦ absurd (Contains-nil relation later)
]
relations_sized name Documents columns fit relation inside =
    all relation.arity (Contains-map (λ (r : Relation). r.arity) (model_relations name (length columns) Documents) relation inside) where
      one : (arity number : ℕ) (rest : List ℕ) → IsArity number → ((other : ℕ) → Contains rest other → IsArity other) → Contains (number ∷ rest) arity
          → IsArity arity
      one arity number rest own later there = elim (Contains-cases number rest arity there) [
        | inl same ↦ subst IsArity same own
        | inr after ↦ later arity after
      ]

      all : (arity : ℕ) → Contains (1 ∷ 3 ∷ 2 ∷ 2 ∷ 2 ∷ []) arity → IsArity arity
      all arity = one arity 1 (3 ∷ 2 ∷ 2 ∷ 2 ∷ []) (omega arith, omega arith)
          (λ a. one a 3 (2 ∷ 2 ∷ 2 ∷ []) (omega arith, omega arith)
          (λ b. one b 2 (2 ∷ 2 ∷ []) (omega arith, omega arith)
          (λ c. one c 2 (2 ∷ []) (omega arith, omega arith) (λ d. one d 2 [] (omega arith, omega arith) (λ e there. absurd (Contains-nil e there))))))
relations_sized name Keys columns fit relation inside = elim (Contains-cases _ [] relation inside) [
  | inl same ↦ let is : 3 ≡ relation.arity = ap (λ (r : Relation). r.arity) same in (omega (arith, is), omega (arith, is))
  | inr later ↦ absurd (Contains-nil relation later)
]

schema_sized : (datasets : List Dataset) → ((dataset : Dataset) → Contains datasets dataset → FitModel dataset.model dataset.columns) → (relation : Relation)
    → Contains (schema_of datasets) relation → IsArity relation.arity
schema_sized [] fit relation inside = absurd (Contains-nil relation inside)
schema_sized (dataset ∷ datasets) fit relation inside = elim (Contains-append_cases (relations_of dataset) (schema_of datasets) relation inside) [
  | inl own ↦ relations_sized dataset.name dataset.model dataset.columns (fit dataset (Contains-head dataset datasets)) relation own
  | inr later ↦ schema_sized datasets (λ other there. fit other (Contains-rest dataset datasets other there)) relation later
]

-- the relations of datasets are a schema
pub datasets_schema : (datasets : List Dataset) → AreDatasets datasets → IsSchema (schema_of datasets)
datasets_schema datasets are = record {
  distinct = names_apart datasets are.distinct (λ dataset inside. (are.sound dataset inside).named);
  arities = all_from IsArity (arities_of (schema_of datasets)) (λ arity inside.
      let (relation, there, is) = Contains-map_from (λ (r : Relation). r.arity) (schema_of datasets) arity inside in
      subst IsArity is (schema_sized datasets (λ dataset at. (are.sound dataset at).columns) relation there));
  room = let most = schema_most datasets in omega (arith, most, are.room);
}

-- what holds of a list holds of its beginning
pairs_front : {A : Type 0} (R : A → A → Type 0) (xs ys : List A) → AllPairs R (xs ++ ys) → AllPairs R xs
pairs_front R xs ys pairs i j d before below =
    let long : j < length (xs ++ ys) = omega (arith, below, length-append xs ys) in
    subst (λ x. R x (get_or xs j d)) (get_or-append xs ys d i (omega (arith, before, below)))
    (subst (λ y. R (get_or (xs ++ ys) i d) y) (get_or-append xs ys d j below) (pairs i j d before long))

all_front : {A : Type 0} (P : A → Type 0) (xs ys : List A) → All P (xs ++ ys) → All P xs
all_front P xs ys all k d below = subst P (get_or-append xs ys d k below) (all k d (omega (arith, below, length-append xs ys)))

-- the first relations of a schema are one
first_schema : (schema more : List Relation) → IsSchema (schema ++ more) → IsSchema schema
first_schema schema more is = record {
  distinct = pairs_front ◌≢◌ (names_of schema) (names_of more)
      (subst (AllPairs ◌≢◌) (map-append (λ (r : Relation). r.name) schema more) is.distinct);
  arities = all_front IsArity (arities_of schema) (arities_of more)
      (subst (All IsArity) (map-append (λ (r : Relation). r.arity) schema more) is.arities);
  room = omega (arith, is.room, length-append schema more);
}

-- the relations of the first datasets and of the next one
pub schema_step : (datasets : List Dataset) (index : ℕ) (dataset : Dataset) → index < length datasets → dataset ≡ get_or datasets index dataset
    → schema_of (take (index + 1) datasets) ≡ schema_of (take index datasets) ++ relations_of dataset
schema_step datasets index dataset below is =
    ap schema_of (take-item datasets index dataset below is) ∙ schema_more (take index datasets) dataset

pub schema_more_step : (datasets : List Dataset) (index : ℕ) (dataset : Dataset) (schema after : List Relation) → index < length datasets
    → dataset ≡ get_or datasets index dataset → schema ≡ schema_of (take index datasets) → after ≡ schema ++ relations_of dataset
    → after ≡ schema_of (take (index + 1) datasets)
schema_more_step datasets index dataset schema after below is so_far at =
    at ∙ ap (λ it. it ++ relations_of dataset) so_far ∙ sym (schema_step datasets index dataset below is)

pub schema_turn : (datasets : List Dataset) (index : ℕ) (dataset : Dataset) (schema : List Relation) → AreDatasets datasets → index < length datasets
    → dataset ≡ get_or datasets index dataset → schema ≡ schema_of (take index datasets) → IsSchema (schema ++ relations_of dataset)
schema_turn datasets index dataset schema are below is so_far =
    let whole : schema_of datasets ≡ schema_of (take (index + 1) datasets) ++ schema_of (drop (index + 1) datasets) =
    ap schema_of (sym (take-append-drop (index + 1) datasets)) ∙ schema_append (take (index + 1) datasets) (drop (index + 1) datasets) in
    let front = first_schema (schema_of (take (index + 1) datasets)) (schema_of (drop (index + 1) datasets)) (subst IsSchema whole (datasets_schema datasets
    are)) in
    let here : schema ++ relations_of dataset ≡ schema_of (take (index + 1) datasets) =
    ap (λ it. it ++ relations_of dataset) so_far ∙ sym (schema_step datasets index dataset below is) in
    subst IsSchema (sym here) front

-- relations that are added one after another: those before, and the first ones
added : (schema now after front : List Relation) (relation : Relation) → now ≡ schema ++ front → after ≡ now ++ relation ∷ []
    → after ≡ schema ++ (front ++ relation ∷ [])
added schema now after front relation so_far is = is ∙ ap (λ it. it ++ relation ∷ []) so_far ∙ append_assoc schema front (relation ∷ [])

fits : (schema now front rest : List Relation) (relation : Relation) → now ≡ schema ++ front → IsSchema (schema ++ (front ++ relation ∷ rest))
    → IsSchema (now ++ relation ∷ [])
fits schema now front rest relation so_far is =
    let whole : (now ++ relation ∷ []) ++ rest ≡ schema ++ (front ++ relation ∷ rest) =
    append_assoc now (relation ∷ []) rest ∙ ap (λ it. it ++ relation ∷ rest) so_far ∙ append_assoc schema front (relation ∷ rest) in
    first_schema (now ++ relation ∷ []) rest (subst IsSchema (sym whole) is)

-- the relations of a collection of documents, added one after another
module _ (name : List ℕ) (schema : List Relation) (is : IsSchema (schema ++ model_relations name 0 Documents)) where
  abbrev root : Relation
  root = part name (codes "root") 1

  abbrev field : Relation
  field = part name (codes "field") 3

  abbrev item : Relation
  item = part name (codes "item") 2

  abbrev value : Relation
  value = part name (codes "value") 2

  abbrev below : Relation
  below = part name (codes "below") 2

  pub root_fits : IsSchema (schema ++ root ∷ [])
  root_fits = fits schema schema [] (field ∷ item ∷ value ∷ below ∷ []) root (sym (append-nil schema)) is

  module _ (one : List Relation) (root_added : one ≡ schema ++ root ∷ []) where
    pub field_fits : IsSchema (one ++ field ∷ [])
    field_fits = fits schema one (root ∷ []) (item ∷ value ∷ below ∷ []) field root_added is

    module _ (two : List Relation) (field_added : two ≡ one ++ field ∷ []) where
      two_are : two ≡ schema ++ (root ∷ field ∷ [])
      two_are = added schema one two (root ∷ []) field root_added field_added

      pub item_fits : IsSchema (two ++ item ∷ [])
      item_fits = fits schema two (root ∷ field ∷ []) (value ∷ below ∷ []) item two_are is

      module _ (three : List Relation) (item_added : three ≡ two ++ item ∷ []) where
        three_are : three ≡ schema ++ (root ∷ field ∷ item ∷ [])
        three_are = added schema two three (root ∷ field ∷ []) item two_are item_added

        pub value_fits : IsSchema (three ++ value ∷ [])
        value_fits = fits schema three (root ∷ field ∷ item ∷ []) (below ∷ []) value three_are is

        module _ (four : List Relation) (value_added : four ≡ three ++ value ∷ []) where
          four_are : four ≡ schema ++ (root ∷ field ∷ item ∷ value ∷ [])
          four_are = added schema three four (root ∷ field ∷ item ∷ []) value three_are value_added

          pub below_fits : IsSchema (four ++ below ∷ [])
          below_fits = fits schema four (root ∷ field ∷ item ∷ value ∷ []) [] below four_are is

          pub all_added : (five : List Relation) → five ≡ four ++ below ∷ [] → five ≡ schema ++ model_relations name 0 Documents
          all_added five below_added = added schema four five (root ∷ field ∷ item ∷ value ∷ []) below four_are below_added

-- a relation that comes last in a schema has a new name, and is not too wide
pub is_new : (schema : List Relation) (relation : Relation) → IsSchema (schema ++ relation ∷ []) → ¬ Contains (names_of schema) relation.name
is_new schema relation is inside =
    let apart = subst (AllPairs ◌≢◌) (map-append (λ (r : Relation). r.name) schema (relation ∷ [])) is.distinct in
    last_apart (names_of schema) relation.name apart inside where
      last_apart : (names : List (List ℕ)) (name : List ℕ) → AllPairs ◌≢◌ (names ++ name ∷ []) → ¬ Contains names name
      last_apart [] name apart there = Contains-nil name there
      last_apart (first ∷ names) name apart there = elim (Contains-cases first names name there) [
        | inl same ↦ pairs_head ◌≢◌ first (names ++ name ∷ []) apart name (Contains-push names name) same
        | inr later ↦ last_apart names name (pairs_tail ◌≢◌ first (names ++ name ∷ []) apart) later
      ]

pub fits_arity : (schema : List Relation) (relation : Relation) → IsSchema (schema ++ relation ∷ []) → IsArity relation.arity
fits_arity schema relation is =
    let arities = subst (All IsArity) (map-append (λ (r : Relation). r.arity) schema (relation ∷ [])) is.arities in
    subst IsArity (get_or-append_seam (arities_of schema) relation.arity [] 0)
    (arities (length (arities_of schema)) 0 (omega (arith, length-append (arities_of schema) (relation.arity ∷ []))))

-- ---- the words

abbrev pub word_of : Dataset → Word
word_of dataset = record { name = dataset.name; model = dataset.model; base = dataset.base }

-- the words of the first datasets and of the next one
pub word_turn : (datasets : List Dataset) (index : ℕ) (dataset : Dataset) (name : List ℕ) (words after : List Word) → index < length datasets
    → dataset ≡ get_or datasets index dataset → name ≡ dataset.name → words ≡ words_of (take index datasets)
    → after ≡ words ++ record { name = name; model = dataset.model; base = dataset.base } ∷ []
    → after ≡ words_of (take (index + 1) datasets)
word_turn datasets index dataset name words after below at named so_far is =
    is ∙ ap (λ (n : List ℕ). words ++ record { name = n; model = dataset.model; base = dataset.base } ∷ []) named
    ∙ ap (λ it. it ++ word_of dataset ∷ []) so_far ∙ sym (map-append word_of (take index datasets) (dataset ∷ []))
    ∙ ap words_of (sym (take-item datasets index dataset below at))

arity_at : (schema : List Relation) (base : ℕ) (relations : List Relation) → StandFrom schema base relations → (number place : ℕ) (relation : Relation)
    → slice_get relations number ≡ Some relation → place ≡ base + number → slice_get (arities_of schema) place ≡ Some relation.arity
arity_at schema base relations stand number place relation at is =
    subst (λ n. slice_get (arities_of schema) n ≡ Some relation.arity) (sym is)
    (map_at (λ (r : Relation). r.arity) schema (base + number) relation (stand number relation at))

-- a dataset's relations stand where its word says
pub has_relations : (schema : List Relation) (name : List ℕ) (columns : ℕ) (model : DataModel) (base : ℕ)
    → StandFrom schema base (model_relations name columns model) → HasRelations (arities_of schema) model base
has_relations schema name columns Table base stand =
    slice_get_within (arities_of schema) base columns
    (arity_at schema base (model_relations name columns Table) stand 0 base (record { name = name; arity = columns }) refl (omega arith))
has_relations schema name columns Documents base stand = (
  arity_at schema base (model_relations name columns Documents) stand 0 base (part name (codes "root") 1) refl (omega arith),
  arity_at schema base (model_relations name columns Documents) stand 1 (base + 1) (part name (codes "field") 3) refl refl,
  arity_at schema base (model_relations name columns Documents) stand 2 (base + 2) (part name (codes "item") 2) refl refl,
  arity_at schema base (model_relations name columns Documents) stand 3 (base + 3) (part name (codes "value") 2) refl refl,
  arity_at schema base (model_relations name columns Documents) stand 4 (base + 4) (part name (codes "below") 2) refl refl,
)
has_relations schema name columns Keys base stand =
    arity_at schema base (model_relations name columns Keys) stand 0 base (part name (codes "pair") 3) refl (omega arith)

pub set_words : (datasets : List Dataset) → AreSet datasets → IsVocabulary (arities_of (schema_of datasets)) (words_of datasets)
set_words datasets set = record {
  distinct = subst (AllPairs ◌≢◌) (sym (map_then word_of (λ (word : Word). word.name) datasets)) set.distinct;
  relations = all_from (λ (word : Word). HasRelations (arities_of (schema_of datasets)) word.model word.base) (words_of datasets) (λ word inside.
      let (dataset, there, is) = Contains-map_from word_of datasets word inside in
      subst (λ (w : Word). HasRelations (arities_of (schema_of datasets)) w.model w.base) is
      (has_relations (schema_of datasets) dataset.name (length dataset.columns) dataset.model dataset.base (set.sound dataset there).relations));
}

-- datasets with their relations and words
pub scope_is : (scope : Scope) → AreDatasets scope.datasets → scope.schema ≡ schema_of scope.datasets → scope.words ≡ words_of scope.datasets → IsScope scope
scope_is scope datasets schema words = record {
  datasets_are = datasets;
  schema = schema;
  words = words;
  vocabulary = subst (λ (w : List Word). IsVocabulary (arities_of scope.schema) w) (sym words)
      (subst (λ (s : List Relation). IsVocabulary (arities_of s) (words_of scope.datasets)) (sym schema)
      (set_words scope.datasets (datasets_set scope.datasets datasets)));
}
