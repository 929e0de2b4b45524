-- Datasets that were read are sound over the relations of all.
use Rattle.std.proofs.Common.{◌≡◌, ◌≢◌, ◌<◌, ◌≤◌, ◌+◌, ◌*◌, ℕ, suc, List, [], ◌∷◌, ◌++◌, length, map, drop, get_or, true, false, Option, Some, inl, inr, refl}
use Rattle.std.proofs.Common.{sym, ap, subst, ◌∙◌, arith, length-append}
use Rattle.std.specs.Prelude.{Contains, AllPairs, slice_get}
use Rattle.std.proofs.lemmas.Bool.{false≢true}
use Rattle.std.proofs.lemmas.Cmp.{nat_list_eq_equiv}
use Rattle.std.proofs.lemmas.List.{append-nil, append_assoc, map-append}
use Rattle.std.proofs.lemmas.List.Elements.{Contains-push_cases, Contains-get_or}
use Rattle.std.proofs.lemmas.List.Quantifiers.{all_pairs_push}
use Rattle.esto_course.proofs.Steps.{Leads, first_stops, then_goes, gives_goes, turn_next, turn_stops}
use Rattle.esto_course.specs.Course.{Course, Stops, and_then, gives, demands, each}
use Rattle.esto_docmodel.specs.declared.file.Layout.{Layout}
use Rattle.esto_docmodel.specs.declared.file.Layout.TheVariants.{Lines}
use Rattle.esto_query.specs.declared.schema.Relation.{Relation}
use Rattle.esto_docmodel.specs.declared.words.DataModel.{DataModel}
use Rattle.esto_docmodel.specs.declared.words.DataModel.TheVariants.{Table, Documents, Keys}
use Rattle.esto_term.proofs.ListLemmas.{at_left, at_right, Contains-map_from, Contains-nil}
use Rattle.esto_catalog.proofs.NameLemmas.{any_free, name_of}
use Rattle.esto_catalog.specs.Datasets.{AreDatasets, adds_dataset, columns_row, dataset_of, has_dataset, reads_dataset, reads_datasets}
use Rattle.esto_mapping.specs.Datasets.{AreBased, FitModel, IsDataset, StandFrom, is_name, model_relations, relation_count, relations_of, schema_of}
use Rattle.esto_catalog.specs.Models.{layout_row}
use Rattle.esto_catalog.specs.Rows.{IsWant, IsAny}
use Rattle.esto_settings.specs.Settings.{is_same}
use Rattle.esto_mapping.specs.declared.dataset.Dataset.{Dataset}
use Rattle.esto_catalog.specs.declared.fault.CatalogueError.{CatalogueError}
use Rattle.esto_catalog.specs.declared.fault.Place.{Place}
use Rattle.esto_status.specs.declared.fault.Section.TheVariants as section
use Rattle.esto_settings.specs.declared.setting.Field.{Field}
use Rattle.esto_catalog.specs.declared.whole.TheConstants.{MAX_ENTRIES}

-- ---- relations of more datasets

pub schema_append : (datasets others : List Dataset) → schema_of (datasets ++ others) ≡ schema_of datasets ++ schema_of others
schema_append [] others = refl
schema_append (dataset ∷ datasets) others =
    ap (λ it. relations_of dataset ++ it) (schema_append datasets others)
    ∙ sym (append_assoc (relations_of dataset) (schema_of datasets) (schema_of others))

pub schema_more : (datasets : List Dataset) (dataset : Dataset) → schema_of (datasets ++ dataset ∷ []) ≡ schema_of datasets ++ relations_of dataset
schema_more datasets dataset = schema_append datasets (dataset ∷ []) ∙ ap (λ it. schema_of datasets ++ it) (append-nil (relations_of dataset))

-- how many relations there are
length-relations : (name : List ℕ) (columns : ℕ) (model : DataModel) → length (model_relations name columns model) ≡ relation_count model
length-relations name columns Table = refl
length-relations name columns Documents = refl
length-relations name columns Keys = refl

pub count_most : (model : DataModel) → relation_count model ≤ 5
count_most Table = omega arith
count_most Documents = omega arith
count_most Keys = omega arith

length-schema_more : (datasets : List Dataset) (dataset : Dataset)
    → length (schema_of (datasets ++ dataset ∷ [])) ≡ length (schema_of datasets) + relation_count dataset.model
length-schema_more datasets dataset =
    ap length (schema_more datasets dataset) ∙ length-append (schema_of datasets) (relations_of dataset)
    ∙ ap (λ n. length (schema_of datasets) + n) (length-relations dataset.name (length dataset.columns) dataset.model)

pub base_more : (datasets : List Dataset) (dataset : Dataset) (base count : ℕ) → base ≡ length (schema_of datasets) → count ≡ relation_count dataset.model
    → base + count ≡ length (schema_of (datasets ++ dataset ∷ []))
base_more datasets dataset base count is own = (λ i. is i + own i) ∙ sym (length-schema_more datasets dataset)

pub schema_most : (datasets : List Dataset) → length (schema_of datasets) ≤ 5 * length datasets
schema_most [] = omega arith
schema_most (dataset ∷ datasets) =
    let one = length-relations dataset.name (length dataset.columns) dataset.model in
    let most = count_most dataset.model in
    let both = length-append (relations_of dataset) (schema_of datasets) in
    let rest = schema_most datasets in
    omega (arith, one, most, both, rest)

-- ---- sets of datasets

-- no two datasets of one name, each sound over the relations of all
pub record AreSet (datasets : List Dataset) : Type 0 where
  pub distinct : AllPairs ◌≢◌ (map name_of datasets)
  pub sound : (dataset : Dataset) → Contains datasets dataset → IsDataset (schema_of datasets) dataset

-- what a dataset keeps that comes after others
record IsNext (datasets : List Dataset) (dataset : Dataset) : Type 0 where
  new : has_dataset dataset.name datasets ≡ false
  named : is_name dataset.name ≡ true
  columns : FitModel dataset.model dataset.columns
  layout : dataset.model ≢ Documents → dataset.layout ≡ Lines
  base : dataset.base ≡ length (schema_of datasets)

name_free : (datasets : List Dataset) (name other : List ℕ) → has_dataset name datasets ≡ false → Contains (map name_of datasets) other → other ≢ name
name_free datasets name other new inside same =
    let (dataset, there, is) = Contains-map_from name_of datasets other inside in
    let not : is_same dataset.name name ≡ false = any_free (λ (d : Dataset). is_same d.name name) datasets new dataset there in
    let yes : is_same name name ≡ true = nat_list_eq_equiv.refl name in
    false≢true (sym not ∙ (ap (λ (n : List ℕ). is_same n name) (is ∙ same) ∙ yes))

-- relations that stand in a schema stand in a longer one
stand_more : (schema more : List Relation) (base : ℕ) (relations : List Relation) → StandFrom schema base relations → StandFrom (schema ++ more) base relations
stand_more schema more base relations stand number relation at = at_left schema more (base + number) relation (stand number relation at)

set_more : (datasets : List Dataset) (dataset : Dataset) → AreSet datasets → IsNext datasets dataset → AreSet (datasets ++ dataset ∷ [])
set_more datasets dataset set next = record {
  distinct = subst (AllPairs ◌≢◌) (sym (map-append name_of datasets (dataset ∷ [])))
      (all_pairs_push ◌≢◌ (map name_of datasets) dataset.name set.distinct
      (λ k d below. name_free datasets dataset.name _ next.new (Contains-get_or (map name_of datasets) k d below)));
  sound = λ other inside. elim (Contains-push_cases datasets dataset other inside) [
    | inl before ↦
        let old = set.sound other before in
        record {
          named = old.named;
          columns = old.columns;
          layout = old.layout;
          relations = subst (λ (schema : List Relation). StandFrom schema other.base (relations_of other)) (sym (schema_more datasets dataset))
              (stand_more (schema_of datasets) (relations_of dataset) other.base (relations_of other) old.relations);
        }
    | inr same ↦ subst (IsDataset (schema_of (datasets ++ dataset ∷ []))) same
        (record { named = next.named; columns = next.columns; layout = next.layout; relations = last })
  ];
} where
  last : StandFrom (schema_of (datasets ++ dataset ∷ [])) dataset.base (relations_of dataset)
  last number relation at =
      subst (λ (schema : List Relation). slice_get schema (dataset.base + number) ≡ Some relation) (sym (schema_more datasets dataset))
      (subst (λ (n : ℕ). slice_get (schema_of datasets ++ relations_of dataset) (n + number) ≡ Some relation) (sym next.base)
      (at_right (schema_of datasets) (relations_of dataset) number relation at))

-- the columns that were read fit the model
columns_fit : (place : Place) (model : DataModel) (entry : List Field) (columns : List (List ℕ)) → (columns_row place model entry).goes columns
    → FitModel model columns
unfolding and_then gives demands
columns_fit place Table entry columns (texts, needed, (unit, are, same)) = subst (FitModel Table) (sym same) are
columns_fit place Documents entry columns (unit, free, same) = same
columns_fit place Keys entry columns (unit, free, same) = same

-- the layout that was read is that of lines, where the model is not that of documents
layout_plain : (place : Place) (model : DataModel) (entry : List Field) (layout : Layout) → (layout_row place model entry).goes layout → model ≢ Documents
    → layout ≡ Lines
unfolding and_then gives demands
layout_plain place Table entry layout (unit, free, same) other = same
layout_plain place Documents entry layout goes other = absurd (other refl)
layout_plain place Keys entry layout (unit, free, same) other = same

-- a dataset that was read comes after those before it
read_next : (place : Place) (earlier : List Dataset) (entry : List Field) (dataset : Dataset) → (reads_dataset place earlier entry).goes dataset
    → IsNext earlier dataset
unfolding and_then gives demands
read_next place earlier entry dataset (
  unit,
  known,
  (
    name,
    (raw, needed, (u, is_own, (v, new, same_name))),
    (rest, (model, model_goes, (columns, columns_goes, (last, (layout, layout_goes, (file, file_goes, last_is)), rest_is))), made),
  ),
) =
    let rows : rest ≡ (model, columns, layout, file) = rest_is ∙ ap (λ (it : Layout × Option (List ℕ)). (model, columns, it.0, it.1)) last_is in
    let is : dataset ≡ dataset_of name (length (schema_of earlier)) (model, columns, layout, file) =
    made ∙ ap (dataset_of name (length (schema_of earlier))) rows in
    let named : dataset.name ≡ raw = ap name_of is ∙ same_name in
    let modelled : dataset.model ≡ model = ap (λ (d : Dataset). d.model) is in
    let laid : dataset.layout ≡ layout = ap (λ (d : Dataset). d.layout) is in
    record {
      new = subst (λ (n : List ℕ). has_dataset n earlier ≡ false) (sym named) new;
      named = subst (λ (n : List ℕ). is_name n ≡ true) (sym named) is_own;
      columns = subst (λ (d : Dataset). FitModel d.model d.columns) (sym is) (columns_fit place model entry columns columns_goes);
      layout = λ other. laid ∙ layout_plain place model entry layout layout_goes (λ same. other (modelled ∙ same));
      base = ap (λ (d : Dataset). d.base) is;
    }

-- each step keeps it
set_each : (entries : List (List Field)) (number : ℕ) (earlier datasets : List Dataset) → AreSet earlier
    → (each adds_dataset number earlier entries).goes datasets
    → AreSet datasets × (length datasets ≡ length earlier + length entries)
unfolding and_then gives
set_each [] number earlier datasets set is = (subst AreSet (sym is) set, ap length is ∙ omega arith)
set_each (entry ∷ entries) number earlier datasets set (next, (dataset, read, added), rest) =
    let more : AreSet next = subst AreSet (sym added) (set_more earlier dataset set (read_next _ earlier entry dataset read)) in
    let (all, count) = set_each entries (suc number) next datasets more rest in
    let one : length next ≡ length earlier + 1 = ap length added ∙ length-append earlier (dataset ∷ []) in
    (all, omega (arith, count, one))

-- each dataset stands where those before it end
based_more : (earlier : List Dataset) (dataset : Dataset) (base : ℕ) → AreBased base earlier → dataset.base ≡ base + length (schema_of earlier)
    → AreBased base (earlier ++ dataset ∷ [])
based_more [] dataset base based is = (is ∙ omega arith, tt)
based_more (first ∷ earlier) dataset base (here, rest) is =
    let more = length-append (relations_of first) (schema_of earlier) in
    (here, based_more earlier dataset (base + length (relations_of first)) rest (omega (arith, is, more)))

each_based : (entries : List (List Field)) (number : ℕ) (earlier datasets : List Dataset) → AreBased 0 earlier
    → (each adds_dataset number earlier entries).goes datasets → AreBased 0 datasets
unfolding and_then gives
each_based [] number earlier datasets based is = subst (AreBased 0) (sym is) based
each_based (entry ∷ entries) number earlier datasets based (next, (dataset, read, added), rest) =
    let base : dataset.base ≡ 0 + length (schema_of earlier) = omega (arith, (read_next _ earlier entry dataset read).base) in
    each_based entries (suc number) next datasets (subst (AreBased 0) (sym added) (based_more earlier dataset 0 based base)) rest

pub read_based : (entries : List (List Field)) (datasets : List Dataset) → (reads_datasets entries).goes datasets → AreBased 0 datasets
read_based entries datasets read = each_based entries 1 [] datasets tt read

no_set : AreSet []
no_set = record { distinct = λ i j d before below. absurd (omega arith); sound = λ dataset inside. absurd (Contains-nil dataset inside) }

-- the datasets that entries say
pub read_set : (entries : List (List Field)) (datasets : List Dataset) → (reads_datasets entries).goes datasets
    → AreSet datasets × (length datasets ≡ length entries)
read_set entries datasets read = let (set, count) = set_each entries 1 [] datasets no_set read in (set, count ∙ omega arith)

pub read_all : (entries : List (List Field)) (datasets : List Dataset) → length entries ≤ MAX_ENTRIES → (reads_datasets entries).goes datasets
    → AreDatasets datasets
read_all entries datasets few read =
    let (set, count) = read_set entries datasets read in
    record { distinct = set.distinct; sound = set.sound; room = omega (arith, count, few) }

pub datasets_set : (datasets : List Dataset) → AreDatasets datasets → AreSet datasets
datasets_set datasets are = record { distinct = are.distinct; sound = are.sound }

-- a turn of the loop over the entries of datasets
module _ (entries : List (List Field)) (to : Course CatalogueError (List Dataset)) (index : ℕ) (datasets : List Dataset)
    (leads : Leads (each adds_dataset (suc index) datasets (drop index entries)) to) (item : List Field) (below : index < length entries)
    (is : item ≡ get_or entries index item)
    (place : Place) (there : place ≡ record { section = section.Dataset; number = index + 1 }) (seen : List Dataset) (entry : List Field)
    (same : seen ≡ datasets) (fields : entry ≡ item) where
  abbrev own_place : Place
  own_place = record { section = section.Dataset; number = index + 1 }

  -- what is said of the place, the datasets so far and the entry
  moved : (P : Place → List Dataset → List Field → Type 0) → P place seen entry → P own_place datasets item
  moved P holds = subst (λ it. P it datasets item) there (subst (λ it. P place it item) same (subst (P place seen) fields holds))

  pub dataset_turn : (dataset : Dataset) → (reads_dataset place seen entry).goes dataset
      → Leads (each adds_dataset (suc (index + 1)) (datasets ++ dataset ∷ []) (drop (index + 1) entries)) to
  dataset_turn dataset goes =
      let here = moved (λ (at : Place) (earlier : List Dataset) (fields : List Field). (reads_dataset at earlier fields).goes dataset) goes in
      turn_next adds_dataset entries to index datasets leads item below is (datasets ++ dataset ∷ [])
      (then_goes (reads_dataset own_place datasets item) (λ d. gives (datasets ++ d ∷ [])) dataset (datasets ++ dataset ∷ []) here
      (gives_goes CatalogueError _ _ refl))

  pub dataset_fails : (error : CatalogueError) → Stops IsWant IsAny (reads_dataset place seen entry) error → Stops IsWant IsAny to error
  dataset_fails error stops =
      let here = moved (λ (at : Place) (earlier : List Dataset) (fields : List Field). Stops IsWant IsAny (reads_dataset at earlier fields) error) stops in
      turn_stops adds_dataset entries to index datasets leads item below is error
      (first_stops (reads_dataset own_place datasets item) (λ d. gives (datasets ++ d ∷ [])) here)
