-- What the end of the walk gives.
use Rattle.std.proofs.Common.{◌≡◌, ◌<◌, ◌≤◌, ◌+◌, suc, drop, get_or, length-append, ℕ, Bool, List, [], ◌∷◌, ◌++◌, ◌⊎◌, Some, length, inl, inr, refl, sym, ap}
use Rattle.std.proofs.Common.{subst, ◌∙◌, arith}
use Rattle.std.proofs.Math.ListN.{length-map}
use Rattle.std.specs.Prelude.{slice_get}
use Rattle.std.proofs.lemmas.List.Elements.{Contains-push_cases}
use Rattle.std.proofs.lemmas.Option.{none-some, slice_get_within}
use Rattle.esto_constraint.specs.Graphs.{AreRanks, IsLeastCycle, IsWithin}
use Rattle.esto_acyclic.specs.Relations.{AreNamesOf}
use Rattle.esto_constraint.specs.Relations.{HasRelation, IsEdge}
use Rattle.esto_constraint.specs.declared.ranks.Cycle.{Cycle}
use Rattle.esto_constraint.specs.Constraints.{rule_of, rules_of}
use Rattle.esto_constraint.specs.declared.rule.Constraint.{Constraint}
use Rattle.esto_course.proofs.Steps.{Leads, first_stops, then_goes, gives_goes, turn_next, turn_stops}
use Rattle.esto_course.specs.Course.{Course, Stops, and_then, judges, gives, each}
use Rattle.esto_query.specs.Schemas.{IsSchema, arities_of}
use Rattle.esto_query.specs.declared.schema.Relation.{Relation}
use Rattle.esto_semantics.specs.Rules.{Rule, tuple}
use Rattle.esto_semantics.specs.WellFormed.{AreOver, IsRuleOver}
use Rattle.esto_semantics.specs.declared.fact.Fact.{Fact}
use Rattle.esto_term.specs.declared.term.Term.{Term}
use Rattle.esto_catalog.proofs.EncodingLemmas.{given_most}
use Rattle.esto_catalog.proofs.SchemaLemmas.{datasets_schema}
use Rattle.esto_mapping.specs.Datasets.{IsDataset, schema_of, words_of}
use Rattle.esto_catalog.specs.Scope.{IsScope}
use Rattle.esto_catalog.specs.declared.scope.Scope.{Scope}
use Rattle.esto_catalog.specs.Constraints.{adds_constraint, reads_constraint}
use Rattle.esto_catalog.specs.Fragments.{adds_fragment, reads_fragment, with_fragment, no_fragments, stored_fragment}
use Rattle.esto_catalog.specs.Reading.{IsRankedOf, IsCycleOf, reads_fragments_and_rules}
use Rattle.esto_catalog.specs.Rows.{IsWant, IsAny}
use Rattle.esto_catalog.specs.Soundness.{AreSoundRules, AreSoundFragments, IsSoundFragment, IsSoundStored, IsSoundView}
use Rattle.esto_mapping.specs.Soundness.{IsSoundCatalogue}
use Rattle.esto_docmodel.specs.Stores.{IsShapeFor}
use Rattle.esto_docmodel.specs.declared.file.Store.{Store}
use Rattle.esto_mapping.specs.declared.dataset.Dataset.{Dataset}
use Rattle.esto_catalog.specs.declared.fault.CatalogueError.{CatalogueError}
use Rattle.esto_catalog.specs.declared.fault.Place.{Place}
use Rattle.esto_status.specs.declared.fault.Section.TheVariants as section
use Rattle.esto_catalog.specs.declared.fragment.Fragments.{Fragments}
use Rattle.esto_catalog.specs.declared.fragment.Stored.{Stored}
use Rattle.esto_catalog.specs.declared.walk.Ranked.{Ranked}
use Rattle.esto_catalog.specs.declared.whole.Sections.{Sections}
use Rattle.esto_settings.specs.declared.setting.Field.{Field}
use Rattle.esto_read.specs.Constraints.{IsConstraintReading, IsConstraintFault}
use Rattle.esto_read.specs.Readings.{IsReading, IsFirstFault}
use Rattle.esto_read.specs.declared.read.Form.TheVariants.{View}
use Rattle.esto_read.specs.declared.read.NamedQuery.{NamedQuery}
use Rattle.esto_docmodel.specs.declared.words.Word.{Word}
use Rattle.esto_text.specs.declared.fault.TextFault.{TextFault}
use Rattle.esto_text.specs.declared.version.Version.{Version}
use Rattle.esto_catalog.proofs.AccessLemmas.{AreSoundPatterns}
use Rattle.esto_mapping.specs.declared.catalogue.TheConstants.{MAX_WEIGHT}
use Rattle.esto_views.specs.declared.fragments.FragmentDef.{FragmentDef}
use Rattle.esto_term.proofs.ListLemmas.{at_pushed, Contains-map_from, Contains-nil}

relation_below : (schema : List Relation) (atoms : List (Fact Term)) (relation : ℕ) → AreOver (arities_of schema) atoms → HasRelation atoms relation
    → relation < length schema
relation_below schema atoms relation over (atom, there, is) =
    let below : atom.relation < length (arities_of schema) = slice_get_within (arities_of schema) atom.relation (length atom.terms) (over atom there) in
    let count : length (arities_of schema) ≡ length schema = length-map schema (λ (r : Relation). r.arity) in
    omega (arith, below, count, is)

-- edges of rules over a schema go between its relations
pub rules_within : (schema : List Relation) (rules : List Constraint) → AreSoundRules (arities_of schema) rules
    → IsWithin (length schema) (IsEdge (rules_of rules))
rules_within schema rules sound from to (body, head, inside, leaves, arrives) =
    let (rule, there, same) = Contains-map_from rule_of rules (tuple body head) inside in
    let over : IsRuleOver (arities_of schema) (tuple body head) = subst (IsRuleOver (arities_of schema)) same (sound rule there) in
    (relation_below schema body from over.0 leaves, relation_below schema head to over.1 arrives)

-- one rule more
pub rules_more : (arities : List ℕ) (rules : List Constraint) (rule : Constraint) → AreSoundRules arities rules → IsRuleOver arities (rule_of rule)
    → AreSoundRules arities (rules ++ rule ∷ [])
rules_more arities rules rule sound over other inside = elim (Contains-push_cases rules rule other inside) [
  | inl before ↦ sound other before
  | inr same ↦ subst (λ (r : Constraint). IsRuleOver arities (rule_of r)) same over
]

pub no_rules : (arities : List ℕ) → AreSoundRules arities []
no_rules arities rule inside = absurd (Contains-nil rule inside)

-- a turn of the loop over the entries of constraints
module _ (version : Version) (datasets : List Dataset) (entries : List (List Field)) (to : Course CatalogueError (List Constraint)) (index : ℕ)
    (rules : List Constraint) (leads : Leads (each (adds_constraint version datasets) (suc index) rules (drop index entries)) to) (item : List Field)
    (below : index < length entries)
    (is : item ≡ get_or entries index item)
    (place : Place) (there : place ≡ record { section = section.Constraint; number = index + 1 }) (entry : List Field) (fields : entry ≡ item) where
  abbrev rule_place : Place
  rule_place = record { section = section.Constraint; number = index + 1 }

  -- what is said of the place and the entry
  rule_moved : (P : Place → List Field → Type 0) → P place entry → P rule_place item
  rule_moved P holds = subst (λ it. P it item) there (subst (P place) fields holds)

  pub rule_turn : (rule : Constraint) → (reads_constraint version place datasets entry).goes rule
      → Leads (each (adds_constraint version datasets) (suc (index + 1)) (rules ++ rule ∷ []) (drop (index + 1) entries)) to
  rule_turn rule goes =
      let here = rule_moved (λ (at : Place) (fields : List Field). (reads_constraint version at datasets fields).goes rule) goes in
      turn_next (adds_constraint version datasets) entries to index rules leads item below is (rules ++ rule ∷ [])
      (then_goes (reads_constraint version rule_place datasets item) (λ r. gives (rules ++ r ∷ [])) rule (rules ++ rule ∷ []) here
      (gives_goes CatalogueError _ _ refl))

  pub rule_fails : (error : CatalogueError) → Stops IsWant IsAny (reads_constraint version place datasets entry) error → Stops IsWant IsAny to error
  rule_fails error stops =
      let here = rule_moved (λ (at : Place) (fields : List Field). Stops IsWant IsAny (reads_constraint version at datasets fields) error) stops in
      turn_stops (adds_constraint version datasets) entries to index rules leads item below is error
      (first_stops (reads_constraint version rule_place datasets item) (λ r. gives (rules ++ r ∷ [])) here)

-- the fragment of one entry
module _ (datasets : List Dataset) (number : ℕ) (before : Fragments) (entry : List Field) (place : Place)
    (there : place ≡ record { section = section.Fragment; number = number }) (seen : List FragmentDef) (same : seen ≡ before.definitions) where
  abbrev fragment_place : Place
  fragment_place = record { section = section.Fragment; number = number }

  -- what is said of the place and the fragments so far
  fragment_moved : (P : Place → List FragmentDef → Type 0) → P place seen → P fragment_place before.definitions
  fragment_moved P holds = subst (λ it. P it before.definitions) there (subst (P place) same holds)

  pub fragment_added : (fragment : Stored) (after : Fragments) → after ≡ with_fragment before fragment
      → (reads_fragment place datasets seen entry).goes fragment → (adds_fragment datasets number before entry).goes after
  fragment_added fragment after is goes =
      then_goes (reads_fragment fragment_place datasets before.definitions entry) (λ f. gives (with_fragment before f)) fragment after
      (fragment_moved (λ (at : Place) (earlier : List FragmentDef). (reads_fragment at datasets earlier entry).goes fragment) goes)
      (gives_goes CatalogueError _ _ is)

  pub fragment_refused : (error : CatalogueError) → Stops IsWant IsAny (reads_fragment place datasets seen entry) error
      → Stops IsWant IsAny (adds_fragment datasets number before entry) error
  fragment_refused error stops =
      first_stops (reads_fragment fragment_place datasets before.definitions entry) (λ f. gives (with_fragment before f))
      (fragment_moved (λ (at : Place) (earlier : List FragmentDef). Stops IsWant IsAny (reads_fragment at datasets earlier entry) error) stops)

-- one fragment more
fragments_more : (arities : List ℕ) (fragments : Fragments) (stored : Stored) → AreSoundFragments arities fragments → IsSoundStored arities stored
    → AreSoundFragments arities (with_fragment fragments stored)
fragments_more arities fragments stored sound one = record {
  sound = λ other inside. elim (Contains-push_cases fragments.definitions stored.definition other inside) [
    | inl before ↦ sound.sound other before
    | inr same ↦ subst (IsSoundFragment arities) same one.definition
  ];
  stored = length-append fragments.stores (stored.store ∷ []) ∙ (ap (λ n. n + 1) sound.stored
      ∙ sym (length-append fragments.definitions (stored.definition ∷ [])));
  shapes = λ number store fragment at_store at_fragment.
      shape_more number store fragment (at_pushed fragments.stores stored.store number store at_store)
      (at_pushed fragments.definitions stored.definition number fragment at_fragment);
} where
  shape_more : (number : ℕ) (store : Store) (fragment : FragmentDef)
      → (slice_get fragments.stores number ≡ Some store) ⊎ ((number ≡ length fragments.stores) × (stored.store ≡ store))
      → (slice_get fragments.definitions number ≡ Some fragment) ⊎ ((number ≡ length fragments.definitions) × (stored.definition ≡ fragment))
      → IsShapeFor store.shape fragment.view
  shape_more number store fragment (inl at_store) (inl at_fragment) = sound.shapes number store fragment at_store at_fragment
  shape_more number store fragment (inl at_store) (inr (end, same)) =
      let within = slice_get_within fragments.stores number store at_store in absurd (omega (arith, within, end, sound.stored))
  shape_more number store fragment (inr (end, same)) (inl at_fragment) =
      let within = slice_get_within fragments.definitions number fragment at_fragment in absurd (omega (arith, within, end, sound.stored))
  shape_more number store fragment (inr (end, same_store)) (inr (at, same)) =
      subst (λ (it : Store). IsShapeFor it.shape fragment.view) same_store (subst (λ (it : FragmentDef). IsShapeFor stored.store.shape it.view) same one.shape)

pub fragments_grown : (arities : List ℕ) (before after : Fragments) (stored : Stored) → after ≡ with_fragment before stored → AreSoundFragments arities before
    → IsSoundStored arities stored → AreSoundFragments arities after
fragments_grown arities before after stored is sound one = subst (AreSoundFragments arities) (sym is) (fragments_more arities before stored sound one)

pub no_fragments_sound : (arities : List ℕ) → AreSoundFragments arities no_fragments
no_fragments_sound arities = record {
  sound = λ fragment inside. absurd (Contains-nil fragment inside);
  stored = refl;
  shapes = λ number store fragment at_store at_fragment. absurd (none-some store at_store);
}

-- the fragment of a view over the schema, stored in a shape for the view, with patterns as wide as the view
pub stored_sound : (arities : List ℕ) (view : NamedQuery) (store : Store) (access : List (List Bool)) (weight : ℕ) (stored : Stored)
    → stored ≡ stored_fragment view store access weight → IsSoundView arities view → IsShapeFor store.shape view.query
    → AreSoundPatterns (length view.query.head) access → weight ≤ MAX_WEIGHT → IsSoundStored arities stored
stored_sound arities view store access weight stored is (over, variables) fit patterns light = subst (IsSoundStored arities) (sym is) (record {
  definition = record {
    made = record { has_pattern = patterns.some; variables = variables.0; distinct = variables.1; columns = patterns.wide };
    view = over;
    few = patterns.few;
    distinct = patterns.distinct;
    light = light;
  };
  shape = fit;
})

-- ranks by other words of the rules and the relations
pub ranks_as : (rules others : List Rule) (schema relations : List Relation) (ranks : List ℕ) → rules ≡ others → schema ≡ relations
    → AreRanks (IsEdge rules) (length schema) ranks → AreRanks (IsEdge others) (length relations) ranks
ranks_as rules others schema relations ranks same is exact =
    subst (λ (r : List Rule). AreRanks (IsEdge r) (length relations) ranks) same
    (subst (λ (s : List Relation). AreRanks (IsEdge rules) (length s) ranks) is exact)

-- what a catalogue keeps, where its graph has ranks
pub sound_catalogue : (version : Version) (scope : Scope) (fragments : Fragments) (own : List Constraint) (ranked : Ranked) → IsScope scope
    → AreSoundFragments (arities_of scope.schema) fragments → AreSoundRules (arities_of scope.schema) ranked.rules
    → IsRankedOf version scope.datasets own ranked
    → IsSoundCatalogue scope.schema scope.words scope.datasets fragments.definitions fragments.stores ranked.rules ranked.given ranked.ranks
sound_catalogue version scope fragments own ranked are sound over exact =
    let most : length own ≤ length ranked.rules = given_most version scope.datasets own ranked.rules exact.rules in
    record {
      schema_is = subst IsSchema (sym are.schema) (datasets_schema scope.datasets are.datasets_are);
      datasets_are = λ dataset inside. subst (λ (s : List Relation). IsDataset s dataset) (sym are.schema) (are.datasets_are.sound dataset inside);
      named = are.words;
      vocabulary = are.vocabulary;
      fragments_are = λ fragment inside. (sound.sound fragment inside).made;
      views = λ fragment inside. (sound.sound fragment inside).view;
      few = λ fragment inside. (sound.sound fragment inside).few;
      distinct = λ fragment inside. (sound.sound fragment inside).distinct;
      light = λ fragment inside. (sound.sound fragment inside).light;
      stored = sound.stored;
      shapes = sound.shapes;
      given_are = subst (λ n. n ≤ length ranked.rules) (sym exact.given_are) most;
      rules_are = over;
      within = rules_within scope.schema ranked.rules over;
      ranks_are = ranks_as _ _ (schema_of scope.datasets) scope.schema ranked.ranks (sym exact.rules.all) (sym are.schema) exact.ranks;
    }

-- cycles by other words of the rules and the relations
pub cycle_as : (datasets : List Dataset) (rules others : List Rule) (schema : List Relation) (cycle : Cycle) → rules ≡ others → schema ≡ schema_of datasets
    → IsLeastCycle (IsEdge rules) cycle.relations × AreNamesOf schema cycle.relations cycle.names → IsCycleOf datasets others cycle
cycle_as datasets rules others schema cycle same is (least, names) = (
  subst (λ (r : List Rule). IsLeastCycle (IsEdge r) cycle.relations) same least,
  subst (λ (s : List Relation). AreNamesOf s cycle.relations cycle.names) is names,
)

-- what a text says over a scope, said over its datasets
module _ (scope : Scope) (are : IsScope scope) (text : List ℕ) where
  over_datasets : (P : List Word → List ℕ → Type 0) → P scope.words (arities_of scope.schema)
      → P (words_of scope.datasets) (arities_of (schema_of scope.datasets))
  over_datasets P holds = subst (λ (s : List Relation). P (words_of scope.datasets) (arities_of s)) are.schema
      (subst (λ (w : List Word). P w (arities_of scope.schema)) are.words holds)

  pub view_over : (view : NamedQuery) → IsReading View scope.words (arities_of scope.schema) text view
      → IsReading View (words_of scope.datasets) (arities_of (schema_of scope.datasets)) text view
  view_over view reading = over_datasets (λ words arities. IsReading View words arities text view) reading

  pub view_fault_over : (fault : TextFault) → IsFirstFault View scope.words (arities_of scope.schema) text fault
      → IsFirstFault View (words_of scope.datasets) (arities_of (schema_of scope.datasets)) text fault
  view_fault_over fault first = over_datasets (λ words arities. IsFirstFault View words arities text fault) first

  pub rule_over : (version : Version) (rule : Constraint) → IsConstraintReading version scope.words (arities_of scope.schema) text rule
      → IsConstraintReading version (words_of scope.datasets) (arities_of (schema_of scope.datasets)) text rule
  rule_over version rule reading = over_datasets (λ words arities. IsConstraintReading version words arities text rule) reading

  pub rule_fault_over : (version : Version) (fault : TextFault) → IsConstraintFault version scope.words (arities_of scope.schema) text fault
      → IsConstraintFault version (words_of scope.datasets) (arities_of (schema_of scope.datasets)) text fault
  rule_fault_over version fault first = over_datasets (λ words arities. IsConstraintFault version words arities text fault) first

-- the rules that are read are ranked
pub found_ranked : (sections : Sections) (datasets : List Dataset) (found : Fragments × Ranked) → (reads_fragments_and_rules sections datasets).goes found
    → (version : Version) × (own : List Constraint) × IsRankedOf version datasets own found.1
unfolding and_then judges gives
found_ranked sections datasets found (fragments, f, (ranked, (own, o, are), same)) =
    (sections.version, own, subst (IsRankedOf sections.version datasets own) (sym (ap (λ (it : Fragments × Ranked). it.1) same)) are)
