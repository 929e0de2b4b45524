-- What every catalogue keeps, without the truncation.
use Rattle.std.proofs.Common.{◌≡◌, ◌&&◌, ◌||◌, ℕ, zero, suc, eqb, List, [], ◌∷◌, length, get_or, Bool, true, false, inl, inr, refl, sym, ap, subst, ◌∙◌, eq-eqb}
use Rattle.std.specs.Prelude.{Contains, All, slice_index, IsUtf8}
use Rattle.std.specs.Coded.{Coded, Coded-set, code_by, coded×, coded_list, coded_option, coded_ℕ, coded_bool, le_prop}
use Rattle.std.specs.List.{list_any}
use Rattle.std.proofs.Math.Logic.{∥∥₁_elim, ∥∥₁_map}
use Rattle.std.proofs.lemmas.Bool.{and_parts, eqb-true, false≢true, and_from}
use Rattle.std.proofs.lemmas.Str.{IsUtf8-from_is_utf8, is_utf8-from_IsUtf8}
use Rattle.esto_constraint.proofs.EdgeLemmas.{joins_edges}
use Rattle.esto_constraint.specs.Graphs.{AreRanks, Arrives, IsWalk, IsWithin, Joins}
use Rattle.esto_constraint.specs.Relations.{edges_of, IsEdge}
use Rattle.esto_constraint.specs.Constraints.{rules_of, rule_of}
use Rattle.esto_constraint.specs.declared.rule.Constraint.{Constraint}
use Rattle.esto_query.specs.Schemas.{IsSchema, arities_of}
use Rattle.esto_query.specs.declared.query.Query.{Query}
use Rattle.esto_query.specs.declared.schema.Relation.{Relation}
use Rattle.esto_docmodel.specs.declared.words.DataModel.{DataModel}
use Rattle.esto_docmodel.specs.declared.words.DataModel.TheVariants.{Table, Documents, Keys}
use Rattle.esto_docmodel.specs.declared.words.Word.{Word}
use Rattle.esto_query.proofs.SoundLemmas.{sound_of}
use Rattle.esto_query.specs.Making.{query_of}
use Rattle.esto_docmodel.specs.Shapes.{entries_of}
use Rattle.esto_docmodel.specs.declared.file.Layout.{Layout}
use Rattle.esto_docmodel.specs.declared.file.Layout.TheVariants.{Array, Lines}
use Rattle.esto_docmodel.specs.Words.{HasRelations}
use Rattle.esto_semantics.proofs.TermLemmas.{Const-apart-Plain}
use Rattle.esto_semantics.specs.Maps.{IsConstant, IsFlat, IsVariable}
use Rattle.esto_semantics.specs.Queries.{ConjunctiveQuery}
use Rattle.esto_semantics.specs.Rules.{Rule, tuple, equality, denial}
use Rattle.esto_semantics.specs.WellFormed.{AreOver, HaveUtf8, IsQueryOver, IsRuleOver}
use Rattle.esto_semantics.specs.declared.fact.Fact.{Fact}
use Rattle.esto_term.specs.declared.term.Term.{Term}
use Rattle.esto_views.specs.Fragments.{IsFragment}
use Rattle.esto_views.specs.declared.fragments.FragmentDef.{FragmentDef}
use Rattle.esto_mapping.proofs.LayoutLemmas.{layout_known}
use Rattle.esto_mapping.specs.Datasets.{AreColumns, FitModel, IsDataset}
use Rattle.esto_docmodel.specs.Stores.{begins_plain}
use Rattle.esto_mapping.specs.Soundness.{IsSoundCatalogue}
use Rattle.esto_docmodel.specs.Stores.{FitView, IsShapeFor}
use Rattle.esto_mapping.specs.declared.dataset.Dataset.{Dataset}
use Rattle.esto_mapping.specs.declared.catalogue.Catalogue.{Catalogue}
use Rattle.esto_docmodel.specs.declared.file.Shape.{Shape}
use Rattle.esto_docmodel.specs.declared.file.Shape.TheVariants.{Table as FromTable, Documents as FromDocuments, Keys as FromKeys}
use Rattle.esto_docmodel.specs.declared.file.Store.{Store}
use Rattle.esto_term.proofs.ListLemmas.{Contains-cases, Contains-head, Contains-nil, Contains-rest}

-- ---- codes

model_number : DataModel → ℕ
model_number Table = 0
model_number Documents = 1
model_number Keys = 2

model_of : ℕ → DataModel
model_of zero = Table
model_of (suc zero) = Documents
model_of (suc (suc n)) = Keys

model_back : (model : DataModel) → model_of (model_number model) ≡ model
unfolding model_number model_of
model_back Table = refl
model_back Documents = refl
model_back Keys = refl

pub coded_model : Coded DataModel
coded_model = code_by ℕ coded_ℕ model_number model_of model_back

layout_number : Layout → ℕ
layout_number Array = 0
layout_number Lines = 1

layout_at : ℕ → Layout
layout_at zero = Array
layout_at (suc n) = Lines

layout_back : (layout : Layout) → layout_at (layout_number layout) ≡ layout
unfolding layout_number layout_at
layout_back Array = refl
layout_back Lines = refl

pub coded_layout : Coded Layout
coded_layout = code_by ℕ coded_ℕ layout_number layout_at layout_back

pub coded_relation : Coded Relation
coded_relation = code_by (List ℕ × ℕ) (coded× (coded_list coded_ℕ) coded_ℕ) (λ r. (r.name, r.arity)) (λ p. record { name = p.0; arity = p.1 }) (λ _. refl)

pub coded_word : Coded Word
coded_word =
    code_by (List ℕ × (DataModel × ℕ)) (coded× (coded_list coded_ℕ) (coded× coded_model coded_ℕ)) (λ w. (w.name, (w.model, w.base)))
    (λ p. record { name = p.0; model = p.1.0; base = p.1.1 }) (λ _. refl)

-- ---- a walk of a number of edges is found by trying

abbrev reaches : List (ℕ × ℕ) → ℕ → ℕ → ℕ → Bool
reaches edges zero from to = eqb from to
reaches edges (suc count) from to = list_any (λ (edge : ℕ × ℕ). eqb edge.0 from && reaches edges count edge.1 to) edges

abbrev arrives : List (ℕ × ℕ) → ℕ → ℕ → Bool
arrives edges zero to = true
arrives edges (suc count) to = list_any (λ (edge : ℕ × ℕ). reaches edges count edge.1 to) edges

or_true : (a b : Bool) → b ≡ true → (a || b) ≡ true
or_true true b is = refl
or_true false b is = is

any_from : {A : Type 0} (test : A → Bool) (items : List A) → list_any test items ≡ true → (item : A) × Contains items item × (test item ≡ true)
any_from {A} test [] is = absurd (false≢true is)
any_from {A} test (first ∷ items) is = by (λ rest. any_from test items rest) (test first) refl where
  by : (list_any test items ≡ true → (item : A) × Contains items item × (test item ≡ true)) → (b : Bool) → test first ≡ b
      → (item : A) × Contains (first ∷ items) item × (test item ≡ true)
  by more true here = (first, Contains-head first items, here)
  by more false here =
      let rest : list_any test items ≡ true = subst (λ (b : Bool). (b || list_any test items) ≡ true) here is in
      let (item, there, holds) = more rest in
      (item, Contains-rest first items item there, holds)

any_of : {A : Type 0} (test : A → Bool) (items : List A) (item : A) → Contains items item → test item ≡ true → list_any test items ≡ true
any_of test [] item inside holds = absurd (Contains-nil item inside)
any_of test (first ∷ items) item inside holds = elim (Contains-cases first items item inside) [
  | inl same ↦ subst (λ (b : Bool). (b || list_any test items) ≡ true) (sym (ap test same ∙ holds)) refl
  | inr later ↦ or_true (test first) (list_any test items) (any_of test items item later holds)
]

walk_of : (edges : List (ℕ × ℕ)) (count from to : ℕ) → reaches edges count from to ≡ true
    → (relations : List ℕ) × IsWalk (Joins edges) from relations to × (length relations ≡ count)
walk_of edges zero from to is = ([], eqb-true from to is, refl)
walk_of edges (suc count) from to is =
    let (edge, there, both) = any_from (λ (edge : ℕ × ℕ). eqb edge.0 from && reaches edges count edge.1 to) edges is in
    let (starts, rest) = and_parts (eqb edge.0 from) (reaches edges count edge.1 to) both in
    let same : edge.0 ≡ from = eqb-true edge.0 from starts in
    let (relations, walk, long) = walk_of edges count edge.1 to rest in
    (from ∷ relations, (edge.1, refl, subst (λ n. Contains edges (n, edge.1)) same there, walk), ap suc long)

found : (edges : List (ℕ × ℕ)) (relations : List ℕ) (from to : ℕ) → IsWalk (Joins edges) from relations to → reaches edges (length relations) from to ≡ true
found edges [] from to same = eq-eqb from to same
found edges (relation ∷ relations) from to (next, is, edge, walk) =
    any_of (λ (e : ℕ × ℕ). eqb e.0 from && reaches edges (length relations) e.1 to) edges (from, next) edge
    (and_from (eqb from from) (reaches edges (length relations) next to) (eq-eqb from from refl) (found edges relations next to walk))

arrives_of : (edges : List (ℕ × ℕ)) (count to : ℕ) → arrives edges count to ≡ true → Arrives (Joins edges) to count
arrives_of edges zero to is = (to, [], refl, refl)
arrives_of edges (suc count) to is =
    let (edge, there, rest) = any_from (λ (edge : ℕ × ℕ). reaches edges count edge.1 to) edges is in
    let (relations, walk, long) = walk_of edges count edge.1 to rest in
    (edge.0, edge.0 ∷ relations, (edge.1, refl, there, walk), ap suc long)

arrives_found : (edges : List (ℕ × ℕ)) (relations : List ℕ) (from to : ℕ) → IsWalk (Joins edges) from relations to → arrives edges (length relations) to ≡ true
arrives_found edges [] from to walk = refl
arrives_found edges (relation ∷ relations) from to (next, is, edge, walk) =
    any_of (λ (e : ℕ × ℕ). reaches edges (length relations) e.1 to) edges (from, next) edge (found edges relations next to walk)

-- the same over other edges
walk_over : (One Other : ℕ → ℕ → Type 0) → ((from to : ℕ) → One from to → Other from to) → (relations : List ℕ) (from to : ℕ) → IsWalk One from relations to
    → IsWalk Other from relations to
walk_over One Other weaker [] from to same = same
walk_over One Other weaker (relation ∷ relations) from to (next, is, edge, walk) =
    (next, is, weaker from next edge, walk_over One Other weaker relations next to walk)

-- that some walk arrives is known without its truncation
pub arrives_known : (rules : List Rule) (relation rank : ℕ) → ∥ Arrives (IsEdge rules) relation rank ∥₁ → Arrives (IsEdge rules) relation rank
arrives_known rules relation rank some =
    let holds : arrives (edges_of rules) rank relation ≡ true =
    ∥∥₁_elim some (Coded-set coded_bool _ _) (λ (from, relations, walk, long).
    subst (λ n. arrives (edges_of rules) n relation ≡ true) long
    (arrives_found (edges_of rules) relations from relation (walk_over (IsEdge rules) (Joins (edges_of rules))
    (λ a b edge. (joins_edges rules a b).1 edge) relations from relation walk))) in
    let (from, relations, walk, long) = arrives_of (edges_of rules) rank relation holds in
    (from, relations, walk_over (Joins (edges_of rules)) (IsEdge rules) (λ a b edge. (joins_edges rules a b).0 edge) relations from relation walk, long)

pub utf8_known : (text : List ℕ) → ∥ IsUtf8 text ∥₁ → IsUtf8 text
utf8_known text some = IsUtf8-from_is_utf8 text (∥∥₁_elim some (Coded-set coded_bool _ _) (λ utf8. is_utf8-from_IsUtf8 text utf8))

pub ranks_known : (rules : List Rule) (count : ℕ) (ranks : List ℕ) → ∥ AreRanks (IsEdge rules) count ranks ∥₁ → AreRanks (IsEdge rules) count ranks
ranks_known rules count ranks some = record {
  for_each = ∥∥₁_elim some (Coded-set coded_ℕ _ _) (λ kept. kept.for_each);
  exact = λ relation below. record {
    arrives = arrives_known rules relation (slice_index ranks relation)
        (∥∥₁_map some (λ (kept : AreRanks (IsEdge rules) count ranks). (kept.exact relation below).arrives));
    most = λ from relations walk. ∥∥₁_elim some le_prop (λ kept. (kept.exact relation below).most from relations walk);
  };
}

module _ (schema : List Relation) (words : List Word) (datasets : List Dataset) (fragments : List FragmentDef) (stores : List Store)
    (rules : List Constraint) (given : ℕ) (ranks : List ℕ)
    (sound : ∥ IsSoundCatalogue schema words datasets fragments stores rules given ranks ∥₁) where
  abbrev Kept : Type 0
  Kept = IsSoundCatalogue schema words datasets fragments stores rules given ranks

  refute : (Kept → ⊥) → ⊥
  refute f = ∥∥₁_elim sound (λ p q. absurd p) f

  schema_known : IsSchema schema
  schema_known = record {
    distinct = λ i j d before below same. refute (λ kept. kept.schema_is.distinct i j d before below same);
    arities = λ k d below. (
      ∥∥₁_elim sound le_prop (λ kept. (kept.schema_is.arities k d below).0),
      ∥∥₁_elim sound le_prop
          (λ kept. (kept.schema_is.arities k d below).1),
    );
    room = ∥∥₁_elim sound le_prop (λ kept. kept.schema_is.room);
  }

  plain_known : (columns : List (List ℕ)) → ∥ begins_plain columns ∥₁ → begins_plain columns
  plain_known [] some = tt
  plain_known (first ∷ rest) some = ∥∥₁_elim some (Coded-set coded_bool _ _) (λ plain. plain)

  fit_known : (model : DataModel) (columns : List (List ℕ)) → ∥ FitModel model columns ∥₁ → FitModel model columns
  fit_known Table columns some = record {
    some = ∥∥₁_elim some le_prop (λ fit. fit.some);
    few = ∥∥₁_elim some le_prop (λ fit. fit.few);
    distinct = λ i j d before below same. ∥∥₁_elim some (λ p q. absurd p) (λ fit. fit.distinct i j d before below same);
    plain = plain_known columns (∥∥₁_map some (λ (fit : AreColumns columns). fit.plain));
  }
  fit_known Documents columns some = ∥∥₁_elim some (Coded-set (coded_list (coded_list coded_ℕ)) _ _) (λ fit. fit)
  fit_known Keys columns some = ∥∥₁_elim some (Coded-set (coded_list (coded_list coded_ℕ)) _ _) (λ fit. fit)

  dataset_known : (dataset : Dataset) → Contains datasets dataset → IsDataset schema dataset
  dataset_known dataset inside = record {
    named = ∥∥₁_elim sound (Coded-set coded_bool _ _) (λ kept. (kept.datasets_are dataset inside).named);
    columns = fit_known dataset.model dataset.columns (∥∥₁_map sound (λ (kept : Kept). (kept.datasets_are dataset inside).columns));
    layout = λ other. ∥∥₁_elim sound (Coded-set coded_layout _ _) (λ kept. (kept.datasets_are dataset inside).layout other);
    relations = λ number relation at. ∥∥₁_elim sound (Coded-set (coded_option coded_relation) _ _)
        (λ kept. (kept.datasets_are dataset inside).relations number relation at);
  }

  has_known : (arities : List ℕ) (model : DataModel) (base : ℕ) → ∥ HasRelations arities model base ∥₁ → HasRelations arities model base
  has_known arities Table base some = ∥∥₁_elim some le_prop (λ has. has)
  has_known arities Documents base some = (
    ∥∥₁_elim some (Coded-set (coded_option coded_ℕ) _ _) (λ (has : HasRelations arities Documents base). has.0),
    ∥∥₁_elim some (Coded-set (coded_option coded_ℕ) _ _) (λ (has : HasRelations arities Documents base). has.1),
    ∥∥₁_elim some (Coded-set (coded_option coded_ℕ) _ _) (λ (has : HasRelations arities Documents base). has.2),
    ∥∥₁_elim some (Coded-set (coded_option coded_ℕ) _ _) (λ (has : HasRelations arities Documents base). has.3),
    ∥∥₁_elim some (Coded-set (coded_option coded_ℕ) _ _) (λ (has : HasRelations arities Documents base). has.4),
  )
  has_known arities Keys base some = ∥∥₁_elim some (Coded-set (coded_option coded_ℕ) _ _) (λ has. has)

  relations_known : All (λ (word : Word). HasRelations (arities_of schema) word.model word.base) words
  relations_known k d below =
      has_known (arities_of schema) (get_or words k d).model (get_or words k d).base (∥∥₁_map sound (λ (kept : Kept). kept.vocabulary.relations k d below))

  query_known : (query : ConjunctiveQuery) → ∥ IsQueryOver (arities_of schema) query ∥₁ → IsQueryOver (arities_of schema) query
  query_known query some = record {
    over = λ atom inside. ∥∥₁_elim some (Coded-set (coded_option coded_ℕ) _ _) (λ kept. kept.over atom inside);
    body_texts = λ text at. utf8_known text (∥∥₁_map some (λ (kept : IsQueryOver (arities_of schema) query). kept.body_texts text at));
    head_texts = λ text at. utf8_known text (∥∥₁_map some (λ (kept : IsQueryOver (arities_of schema) query). kept.head_texts text at));
  }

  fragment_known : (fragment : FragmentDef) → Contains fragments fragment → IsFragment fragment
  fragment_known fragment inside = record {
    has_pattern = λ none. refute (λ kept. (kept.fragments_are fragment inside).has_pattern none);
    variables = λ term at. elim (flat fragment.view term at) [
      | inl constant ↦ absurd (refute (λ kept. apart constant ((kept.fragments_are fragment inside).variables term at)))
      | inr variable ↦ variable
    ];
    distinct = λ i j d before below same. refute (λ kept. (kept.fragments_are fragment inside).distinct i j d before below same);
    columns = λ pattern own. ∥∥₁_elim sound (Coded-set coded_ℕ _ _) (λ kept. (kept.fragments_are fragment inside).columns pattern own);
  } where
    flat : (view : Query) (term : Term) → Contains view.head term → IsFlat term
    flat view term at = (sound_of view.head view.body view.names view.sound).query.flat_head term at

    apart : {term : Term} → IsConstant term → IsVariable term → ⊥
    apart (text, is) (number, is') = Const-apart-Plain text number (sym is ∙ is')

  shape_known : (shape : Shape) (view : Query) → ∥ IsShapeFor shape view ∥₁ → IsShapeFor shape view
  shape_known (FromTable columns) view some = record {
    many = ∥∥₁_elim some (Coded-set coded_ℕ _ _) (λ fit. fit.many);
    distinct = λ i j d before below same. ∥∥₁_elim some (λ p q. absurd p) (λ fit. fit.distinct i j d before below same);
    plain = plain_known columns (∥∥₁_map some (λ (fit : FitView view columns). fit.plain));
  }
  shape_known (FromDocuments layout pattern) view some = layout_known (length view.head) (entries_of pattern.entries) some
  shape_known FromKeys view some = tt

  over_known : (atoms : List (Fact Term)) → ∥ AreOver (arities_of schema) atoms ∥₁ → AreOver (arities_of schema) atoms
  over_known atoms some atom inside = ∥∥₁_elim some (Coded-set (coded_option coded_ℕ) _ _) (λ over. over atom inside)

  texts_known : (atoms : List (Fact Term)) → ∥ HaveUtf8 atoms ∥₁ → HaveUtf8 atoms
  texts_known atoms some text at = utf8_known text (∥∥₁_map some (λ (texts : HaveUtf8 atoms). texts text at))

  rule_known : (rule : Rule) → ∥ IsRuleOver (arities_of schema) rule ∥₁ → IsRuleOver (arities_of schema) rule
  rule_known (tuple body head) some = (
    over_known body (∥∥₁_map some (λ (k : IsRuleOver (arities_of schema) (tuple body head)). k.0)),
    over_known head (∥∥₁_map some (λ (k : IsRuleOver (arities_of schema) (tuple body head)). k.1)),
    texts_known body (∥∥₁_map some (λ (k : IsRuleOver (arities_of schema) (tuple body head)). k.2)),
    texts_known head (∥∥₁_map some (λ (k : IsRuleOver (arities_of schema) (tuple body head)). k.3)),
  )
  rule_known (equality body left right) some = (
    over_known body (∥∥₁_map some (λ (k : IsRuleOver (arities_of schema) (equality body left right)). k.0)),
    texts_known body (∥∥₁_map some (λ (k : IsRuleOver (arities_of schema) (equality body left right)). k.1)),
    λ text is. utf8_known text (∥∥₁_map some (λ (k : IsRuleOver (arities_of schema) (equality body left right)). k.2 text is)),
    λ text is. utf8_known text (∥∥₁_map some (λ (k : IsRuleOver (arities_of schema) (equality body left right)). k.3 text is)),
  )
  rule_known (denial body) some = (
    over_known body (∥∥₁_map some (λ (k : IsRuleOver (arities_of schema) (denial body)). k.0)),
    texts_known body (∥∥₁_map some (λ (k : IsRuleOver (arities_of schema) (denial body)). k.1)),
  )

  pub catalogue_known : IsSoundCatalogue schema words datasets fragments stores rules given ranks
  catalogue_known = record {
    schema_is = schema_known;
    datasets_are = dataset_known;
    named = ∥∥₁_elim sound (Coded-set (coded_list coded_word) _ _) (λ kept. kept.named);
    vocabulary = record {
      distinct = λ i j d before below same. refute (λ kept. kept.vocabulary.distinct i j d before below same);
      relations =
          relations_known;
    };
    fragments_are = fragment_known;
    views = λ fragment inside. query_known (query_of fragment.view) (∥∥₁_map sound (λ (kept : Kept). kept.views fragment inside));
    few = λ fragment inside. ∥∥₁_elim sound le_prop (λ kept. kept.few fragment inside);
    distinct = λ fragment inside i j d before below same. refute (λ kept. kept.distinct fragment inside i j d before below same);
    light = λ fragment inside. ∥∥₁_elim sound le_prop (λ kept. kept.light fragment inside);
    stored = ∥∥₁_elim sound (Coded-set coded_ℕ _ _) (λ kept. kept.stored);
    shapes = λ number store fragment at_store at_fragment. shape_known store.shape fragment.view
        (∥∥₁_map sound (λ (kept : Kept). kept.shapes number store fragment at_store at_fragment));
    given_are = ∥∥₁_elim sound le_prop (λ kept. kept.given_are);
    rules_are = λ rule inside. rule_known (rule_of rule) (∥∥₁_map sound (λ (kept : Kept). kept.rules_are rule inside));
    within = λ from to edge. (∥∥₁_elim sound le_prop (λ kept. (kept.within from to edge).0), ∥∥₁_elim sound le_prop (λ kept. (kept.within from to edge).1));
    ranks_are = ranks_known (rules_of rules) (length schema) ranks (∥∥₁_map sound (λ (kept : Kept). kept.ranks_are));
  }

-- a catalogue's rules, over as many relations as there are ranks
module _ (it : Catalogue) where
  kept : IsSoundCatalogue it.schema it.words it.datasets it.fragments it.stores it.rules it.given it.ranks
  kept = catalogue_known it.schema it.words it.datasets it.fragments it.stores it.rules it.given it.ranks it.sound

  pub rules_ranked : IsWithin (length it.ranks) (IsEdge (rules_of it.rules))
  rules_ranked = subst (λ n. IsWithin n (IsEdge (rules_of it.rules))) (sym kept.ranks_are.for_each) kept.within

  pub ranks_ranked : AreRanks (IsEdge (rules_of it.rules)) (length it.ranks) it.ranks
  ranks_ranked = subst (λ n. AreRanks (IsEdge (rules_of it.rules)) n it.ranks) (sym kept.ranks_are.for_each) kept.ranks_are
