-- The made catalogue keeps what a catalogue keeps.
use Rattle.std.proofs.Common.{◌≡◌, ◌≢◌, ◌<◌, ◌≤◌, ◌+◌, ◌*◌, ℕ, zero, suc, false, List, [], ◌∷◌, map, length, slice_get, Some, Contains, AllPairs, refl, sym, ap}
use Rattle.std.proofs.Common.{subst, ◌∙◌, inl, inr, arith, add-zero}
use Rattle.std.specs.Prelude.{codes}
use Rattle.std.proofs.lemmas.List.{length-map}
use Rattle.std.proofs.lemmas.List.Elements.{All-map, All-from_get_or, Contains-get_or}
use Rattle.std.proofs.lemmas.List.FromFn.{length-range_with_len}
use Rattle.esto_constraint.specs.Graphs.{AreRanks, IsAcyclic, IsWithin}
use Rattle.esto_constraint.specs.Relations.{IsEdge}
use Rattle.esto_mapping.specs.Datasets.{AreColumns, IsDataset, StandFrom, words_of}
use Rattle.esto_mapping.specs.Soundness.{AreShapes, IsSoundCatalogue}
use Rattle.esto_docmodel.specs.Stores.{FitView, IsShapeFor}
use Rattle.esto_mapping.specs.declared.catalogue.TheConstants.{MAX_WEIGHT}
use Rattle.esto_docmodel.specs.declared.file.Store.{Store}
use Rattle.esto_mapping.specs.declared.dataset.Dataset.{Dataset}
use Rattle.esto_constraint.specs.Constraints.{rules_of}
use Rattle.esto_constraint.specs.declared.rule.Constraint.{Constraint}
use Rattle.esto_query.specs.Making.{query_of}
use Rattle.esto_query.specs.Schemas.{IsSchema, arities_of, names_of}
use Rattle.esto_query.specs.declared.schema.Relation.{Relation}
use Rattle.esto_docmodel.specs.Words.{HasRelations, IsVocabulary}
use Rattle.esto_docmodel.specs.declared.words.Word.{Word}
use Rattle.esto_semantics.specs.Maps.{IsVariable}
use Rattle.esto_semantics.specs.Queries.{ConjunctiveQuery}
use Rattle.esto_semantics.specs.WellFormed.{IsQueryOver}
use Rattle.esto_semantics.specs.declared.fact.Fact.{Fact}
use Rattle.esto_semantics.proofs.TermLemmas.{Plain-same}
use Rattle.esto_term.proofs.ListLemmas.{Contains-at, Contains-cases, Contains-map, Contains-map_from, Contains-nil, Contains-one, map_at, map_then, range_at}
use Rattle.esto_term.proofs.DistinctLemmas.{distinct_cons, distinct_none}
use Rattle.esto_term.specs.declared.term.Term.{Term}
use Rattle.esto_term.specs.declared.term.Term.TheVariants.{Const, Plain}
use Rattle.esto_views.specs.Fragments.{AreFragments}
use Rattle.esto_views.specs.declared.fragments.FragmentDef.{FragmentDef}
use Rattle.esto_bench.specs.Case.{below, made_columns, made_dataset, made_datasets, made_relation, made_schema, made_store, made_stores, made_view, numbered}
use Rattle.esto_bench.specs.Case.{without_inputs}
use Rattle.esto_bench.specs.Made.{AreMadeFragments}
use Rattle.esto_bench.specs.declared.case.TheConstants.{MAX_SIZE}
use Rattle.esto_bench.proofs.BothLemmas.{both_from, both_long, mapped_from}
use Rattle.esto_bench.proofs.CaseLemmas.{is_relation_name, numbered_apart}

-- ---- relations

relation_at : (size relation : ℕ) → relation < size → slice_get (made_schema size) relation ≡ Some (made_relation relation)
relation_at size relation less =
    map_at made_relation (below size) relation relation (range_at 0 size relation less ∙ ap Some (zero_more relation))
  where
    zero_more : (number : ℕ) → 0 + number ≡ number
    zero_more number = omega arith

arity_at : (size relation : ℕ) → relation < size → slice_get (arities_of (made_schema size)) relation ≡ Some 2
arity_at size relation less = map_at (λ relation. relation.arity) (made_schema size) relation (made_relation relation) (relation_at size relation less)

pub schema_long : (size : ℕ) → length (made_schema size) ≡ size
schema_long size = length-map (below size) made_relation ∙ length-range_with_len 0 size

-- a relation has another name than those before it
pub name_is_new : (relation : ℕ) → relation < 14 → Contains (names_of (made_schema relation)) (numbered (codes "R") relation) → ⊥
name_is_new relation less inside =
    let found = Contains-map_from (λ (it : Relation). it.name) (made_schema relation) (numbered (codes "R") relation) inside in
    let earlier = mapped_from made_relation relation found.0 found.1 in
    let same : numbered (codes "R") earlier.0 ≡ numbered (codes "R") relation = ap (λ (it : Relation). it.name) (sym earlier.2) ∙ found.2 in
    let one = numbered_apart earlier.0 relation (let before = earlier.1 in omega (arith, before, less)) less same in
    omega (arith, one, earlier.1)

-- ---- datasets and words

pub columns_apart : AllPairs ◌≢◌ made_columns
columns_apart = distinct_cons (codes "x") (codes "y" ∷ []) (λ inside. apart (Contains-one (codes "y") (codes "x") inside))
    (distinct_cons (codes "y") [] (Contains-nil (codes "y")) distinct_none)
  where
    same_byte : (one other : ℕ) → one ∷ [] ≡ other ∷ [] → one ≡ other
    same_byte one other same = cc

    apart : codes "y" ≡ codes "x" → ⊥
    apart same = omega (arith, same_byte 121 120 same)

columns_are : AreColumns made_columns
columns_are = record { some = omega arith; few = omega arith; distinct = columns_apart; plain = refl }

module _ (size : ℕ) (few : size ≤ MAX_SIZE) where
  stands : (relation : ℕ) → relation < size → StandFrom (made_schema size) relation (made_relation relation ∷ [])
  stands relation less zero found is =
      ap (slice_get (made_schema size)) (add-zero relation) ∙ relation_at size relation less ∙ is
  stands relation less (suc number) found is = absurd (cc)

  dataset_is : (dataset : Dataset) → Contains (made_datasets size) dataset → IsDataset (made_schema size) dataset
  dataset_is dataset inside =
      let found = mapped_from made_dataset size dataset inside in
      subst (IsDataset (made_schema size)) (sym found.2) (record {
        named = is_relation_name found.0 (omega (arith, found.1, few));
        columns = columns_are;
        layout = λ other. refl;
        relations = stands found.0 found.1;
      })

  made_word : ℕ → Word
  made_word relation = record { name = (made_dataset relation).name; model = (made_dataset relation).model; base = relation }

  word_names : map (λ word. word.name) (words_of (made_datasets size)) ≡ names_of (made_schema size)
  word_names =
      map_then (λ (it : Dataset). record { name = it.name; model = it.model; base = it.base }) (λ (it : Word). it.name) (made_datasets size)
      ∙ map_then made_dataset (λ (it : Dataset). it.name) (below size)
      ∙ sym (map_then made_relation (λ (it : Relation). it.name) (below size))

  words_sound : IsSchema (made_schema size) → IsVocabulary (arities_of (made_schema size)) (words_of (made_datasets size))
  words_sound schema = record {
    distinct = subst (AllPairs ◌≢◌) (sym word_names) schema.distinct;
    relations = All-map (λ (word : Word). HasRelations (arities_of (made_schema size)) word.model word.base)
        (λ (it : Dataset). record { name = it.name; model = it.model; base = it.base }) (made_datasets size)
        (All-from_get_or (λ (it : Dataset). HasRelations (arities_of (made_schema size)) it.model it.base) (made_datasets size) (made_dataset 0)
        (λ place within. in_place _ (Contains-get_or (made_datasets size) place (made_dataset 0) within)));
  }
    where
      in_place : (dataset : Dataset) → Contains (made_datasets size) dataset
          → HasRelations (arities_of (made_schema size)) dataset.model dataset.base
      in_place dataset inside =
          let found = mapped_from made_dataset size dataset inside in
          subst (λ (it : Dataset). HasRelations (arities_of (made_schema size)) it.model it.base) (sym found.2)
          (let long : length (arities_of (made_schema size)) ≡ size = length-map (made_schema size) (λ relation. relation.arity) ∙ schema_long size in
          omega (arith, long, found.1))

-- ---- fragments

abbrev pub HasMadeView : ℕ → FragmentDef → Type 0
HasMadeView size fragment = (relation : ℕ) × (relation < size) × (query_of fragment.view ≡ made_view relation)

-- the terms of a fragment's head are two variables
pub variables_apart : AllPairs ◌≢◌ (Plain 0 ∷ Plain 1 ∷ [])
variables_apart = distinct_cons (Plain 0) (Plain 1 ∷ []) (λ inside. apart (Contains-one (Plain 1) (Plain 0) inside))
    (distinct_cons (Plain 1) [] (Contains-nil (Plain 1)) distinct_none)
  where
    apart : Plain 1 ≡ Plain 0 → ⊥
    apart same = omega (arith, Plain-same 1 0 same)

pub variable_of : (term : Term) → Contains (Plain 0 ∷ Plain 1 ∷ []) term → IsVariable term
variable_of term inside = elim (Contains-cases (Plain 0) (Plain 1 ∷ []) term inside) [
  | inl is ↦ (0, sym is)
  | inr later ↦ (1, sym (Contains-one (Plain 1) term later))
]

module _ (size : ℕ) (fragments : List FragmentDef) (are : AreMadeFragments size fragments) where
  pub view_made : (fragment : FragmentDef) → Contains fragments fragment → HasMadeView size fragment
  view_made fragment inside =
      let found = both_from made_view made_view size (query_of fragment.view)
      (subst (λ it. Contains it (query_of fragment.view)) are.views (Contains-map (λ (it : FragmentDef). query_of it.view) fragments fragment inside)) in
      (found.0, found.1, elim found.2 [ inl is ↦ is | inr is ↦ is ])

  access_made : (fragment : FragmentDef) → Contains fragments fragment → fragment.access ≡ (false ∷ false ∷ []) ∷ []
  access_made fragment inside =
      let found = both_from without_inputs without_inputs size fragment.access
      (subst (λ it. Contains it fragment.access) are.patterns (Contains-map (λ (it : FragmentDef). it.access) fragments fragment inside)) in
      elim found.2 [ inl is ↦ is | inr is ↦ is ]

  weight_made : (fragment : FragmentDef) → Contains fragments fragment → fragment.weight ≤ MAX_WEIGHT
  weight_made fragment inside =
      let found = both_from (λ _. 1) (λ _. 2) size fragment.weight
      (subst (λ it. Contains it fragment.weight) are.weights (Contains-map (λ (it : FragmentDef). it.weight) fragments fragment inside)) in
      elim found.2 [ inl is ↦ omega (arith, is) | inr is ↦ omega (arith, is) ]

  head_made : (fragment : FragmentDef) → Contains fragments fragment → fragment.view.head ≡ Plain 0 ∷ Plain 1 ∷ []
  head_made fragment inside = ap (λ (it : ConjunctiveQuery). it.head) (view_made fragment inside).2

  fragment_is : AreFragments fragments
  fragment_is fragment inside = record {
    has_pattern = λ none. let clash : (false ∷ false ∷ []) ∷ [] ≡ [] = sym (access_made fragment inside) ∙ none in cc;
    variables = λ term there. variable_of term (subst (λ it. Contains it term) (head_made fragment inside) there);
    distinct = subst (AllPairs ◌≢◌) (sym (head_made fragment inside)) variables_apart;
    columns = λ pattern there.
        ap length (sym (Contains-one (false ∷ false ∷ []) pattern (subst (λ it. Contains it pattern) (access_made fragment inside) there)))
        ∙ ap length (sym (head_made fragment inside));
  }

  no_constant : (text : List ℕ) (first second : ℕ) → Contains (Plain first ∷ Plain second ∷ []) (Const text) → ⊥
  no_constant text first second inside = elim (Contains-cases (Plain first) (Plain second ∷ []) (Const text) inside) [
    | inl is ↦ clash first is
    | inr later ↦ clash second (Contains-one (Plain second) (Const text) later)
  ]
    where
      clash : (number : ℕ) → Plain number ≡ Const text → ⊥
      clash number is = cc

  made_over : (relation : ℕ) → relation < size → IsQueryOver (arities_of (made_schema size)) (made_view relation)
  made_over relation less = record {
    over = λ fact inside.
        subst (λ (it : Fact Term). slice_get (arities_of (made_schema size)) it.relation ≡ Some (length it.terms)) (Contains-one _ fact inside)
        (arity_at size relation less);
    body_texts = λ text mentioned. absurd (no_constant text 0 1
        (subst (λ (it : Fact Term). Contains it.terms (Const text)) (sym (Contains-one _ mentioned.0 mentioned.1)) mentioned.2));
    head_texts = λ text inside. absurd (no_constant text 0 1 inside);
  }

  view_over : (fragment : FragmentDef) → Contains fragments fragment → IsQueryOver (arities_of (made_schema size)) (query_of fragment.view)
  view_over fragment inside =
      let found = view_made fragment inside in subst (IsQueryOver (arities_of (made_schema size))) (sym found.2) (made_over found.0 found.1)

  shapes_fit : AreShapes (made_stores size) fragments
  shapes_fit number store fragment there is =
      let found = both_from (made_store (codes "A")) (made_store (codes "B")) size store (Contains-at (made_stores size) number store there) in
      let fits : FitView fragment.view made_columns = record {
        many = sym (ap length (head_made fragment (Contains-at fragments number fragment is)));
        distinct = columns_apart;
        plain = refl;
      } in
      elim found.2 [
        | inl same ↦ subst (λ (it : Store). IsShapeFor it.shape fragment.view) (sym same) fits
        | inr same ↦ subst (λ (it : Store). IsShapeFor it.shape fragment.view) (sym same) fits
      ]

-- ---- no rules

pub no_edges : (count : ℕ) → IsWithin count (IsEdge [])
no_edges count from to (body, head, inside, starts, ends) = absurd (Contains-nil _ inside)

pub within_none : (count : ℕ) (rules : List Constraint) → rules ≡ [] → IsWithin count (IsEdge (rules_of rules))
within_none count rules none = subst (λ it. IsWithin count (IsEdge (rules_of it))) (sym none) (no_edges count)

-- no walk has an edge, so no cycle is there
pub acyclic_none : (rules : List Constraint) → rules ≡ [] → IsAcyclic (IsEdge (rules_of rules))
acyclic_none rules none = subst (λ it. IsAcyclic (IsEdge (rules_of it))) (sym none) here
  where
    here : IsAcyclic (IsEdge [])
    here start [] cycle = omega (arith, cycle.0)
    here start (first ∷ rest) (some, (next, is, (body, head, inside, starts, ends), walk)) = Contains-nil _ inside

-- ---- the catalogue

module _ (size : ℕ) (few : size ≤ MAX_SIZE) (schema_is : IsSchema (made_schema size)) (fragments : List FragmentDef) (are : AreMadeFragments size fragments)
    (ranks : List ℕ) (ranks_are : AreRanks (IsEdge []) (length (made_schema size)) ranks) where
  one_pattern : AllPairs ◌≢◌ ((false ∷ false ∷ []) ∷ [])
  one_pattern = distinct_cons (false ∷ false ∷ []) [] (Contains-nil (false ∷ false ∷ [])) distinct_none

  fragments_long : length fragments ≡ 2 * size
  fragments_long =
      sym (length-map fragments (λ (it : FragmentDef). it.name)) ∙ ap length are.names ∙ both_long (numbered (codes "A")) (numbered (codes "B")) size

  sound : IsSoundCatalogue (made_schema size) (words_of (made_datasets size)) (made_datasets size) fragments (made_stores size) [] 0 ranks
  sound = record {
    schema_is = schema_is;
    datasets_are = dataset_is size few;
    named = refl;
    vocabulary = words_sound size few schema_is;
    fragments_are = fragment_is size fragments are;
    views = view_over size fragments are;
    few = λ fragment inside. let one : length fragment.access ≡ 1 = ap length (access_made size fragments are fragment inside) in omega (arith, one);
    distinct = λ fragment inside. subst (AllPairs ◌≢◌) (sym (access_made size fragments are fragment inside)) one_pattern;
    light = weight_made size fragments are;
    stored = both_long (made_store (codes "A")) (made_store (codes "B")) size ∙ sym fragments_long;
    shapes = shapes_fit size fragments are;
    given_are = omega arith;
    rules_are = λ rule inside. absurd (Contains-nil rule inside);
    within = no_edges (length (made_schema size));
    ranks_are = ranks_are;
  }

  pub made_sound : (schema : List Relation) (words : List Word) (datasets : List Dataset) (stores : List Store) (rules : List Constraint)
      → schema ≡ made_schema size → words ≡ words_of (made_datasets size) → datasets ≡ made_datasets size → stores ≡ made_stores size → rules ≡ []
      → IsSoundCatalogue schema words datasets fragments stores rules 0 ranks
  made_sound schema words datasets stores rules schema_same words_same datasets_same stores_same rules_same =
      subst (λ it. IsSoundCatalogue it words datasets fragments stores rules 0 ranks) (sym schema_same)
      (subst (λ it. IsSoundCatalogue (made_schema size) it datasets fragments stores rules 0 ranks) (sym words_same)
      (subst (λ it. IsSoundCatalogue (made_schema size) (words_of (made_datasets size)) it fragments stores rules 0 ranks) (sym datasets_same)
      (subst (λ it. IsSoundCatalogue (made_schema size) (words_of (made_datasets size)) (made_datasets size) fragments it rules 0 ranks) (sym stores_same)
      (subst (λ it. IsSoundCatalogue (made_schema size) (words_of (made_datasets size)) (made_datasets size) fragments (made_stores size) it 0 ranks)
      (sym rules_same) sound))))
