-- The walk has one outcome.
use Rattle.std.proofs.Common.{◌≡◌, ◌≢◌, ◌⊎◌, ℕ, suc, pos, arith, Bool, List, [], ◌∷◌, ◌++◌, length, map, Option, Some, None, get_or, Ordering, Less, Equal}
use Rattle.std.proofs.Common.{Greater, inl, inr, refl, sym, ap, subst, ◌∙◌, codes}
use Rattle.std.specs.Prelude.{slice_get}
use Rattle.std.specs.Ordering.{ordering_reverse}
use Rattle.std.proofs.Math.Logic.{∥∥₁_prop}
use Rattle.std.proofs.lemmas.Cmp.{nat_list_cmp_total}
use Rattle.std.proofs.lemmas.List.{map-append}
use Rattle.std.proofs.lemmas.Map.Lookups.{exact_bytes}
use Rattle.std.proofs.lemmas.Option.{same_Some}
use Rattle.esto_constraint.specs.Graphs.{AreRanks, IsLeastCycle}
use Rattle.esto_constraint.specs.Relations.{IsEdge}
use Rattle.esto_constraint.specs.declared.ranks.Cycle.{Cycle}
use Rattle.esto_constraint.specs.Constraints.{rules_of}
use Rattle.esto_constraint.specs.EncodingRules.{written}
use Rattle.esto_constraint.specs.Soundness.{IsSoundTuple, IsSoundEquality, IsSoundDenial}
use Rattle.esto_constraint.specs.declared.rule.Constraint.{Constraint}
use Rattle.esto_constraint.specs.declared.rule.Constraint.TheVariants.{Tuple, Equal as Equality, Never}
use Rattle.esto_course.specs.Agreement.{Agree, IsDetermined, IsDeterminedUpTo}
use Rattle.esto_course.proofs.Alike.{nothing_alike, then_alike}
use Rattle.esto_course.proofs.Determined.{then_agree, judges_agree, then_determined, gives_determined, refuses_determined, demands_determined}
use Rattle.esto_course.proofs.Determined.{judges_determined, each_determined}
use Rattle.esto_course.specs.Course.{Course, Stops, and_then, demands, each, gives}
use Rattle.esto_course.specs.Course.Stops.{is_free, refused}
use Rattle.esto_query.specs.Schemas.{arities_of, names_of}
use Rattle.esto_query.specs.declared.query.Name.{Name}
use Rattle.esto_query.specs.declared.query.Name.TheVariants.{Given}
use Rattle.esto_query.specs.declared.query.Query.{Query}
use Rattle.esto_query.proofs.SoundLemmas.{same_query}
use Rattle.esto_read.specs.Constraints.{AreSameRule, HaveOneRule, HaveNoRuleFault, HaveOneRuleFault}
use Rattle.esto_docmodel.specs.Layouts.{IsLayout}
use Rattle.esto_docmodel.specs.Shapes.{entries_of}
use Rattle.esto_docmodel.specs.declared.pattern.Pattern.{Pattern}
use Rattle.esto_docmodel.specs.declared.file.Layout.{Layout}
use Rattle.esto_docmodel.specs.declared.file.Layout.TheVariants.{Array, Lines}
use Rattle.esto_read.specs.Layouts.{AreColumns as AreNamed, HaveOneLayout, HaveNoLayoutFault, HaveOneLayoutFault}
use Rattle.esto_read.specs.Naming.{ViewsNameTheirColumns}
use Rattle.esto_docmodel.specs.declared.words.DataModel.{DataModel}
use Rattle.esto_docmodel.specs.declared.words.DataModel.TheVariants.{Table, Documents, Keys}
use Rattle.esto_read.specs.Readings.{AreSame, HaveOneReading, HaveNoFault, HaveOneFault}
use Rattle.esto_docmodel.specs.Words.{IsVocabulary}
use Rattle.esto_read.specs.declared.read.Form.TheVariants.{View}
use Rattle.esto_read.specs.declared.read.NamedQuery.{NamedQuery}
use Rattle.esto_semantics.specs.Rules.{Rule}
use Rattle.esto_semantics.specs.declared.fact.Fact.{Fact}
use Rattle.esto_term.specs.declared.term.Term.{Term}
use Rattle.esto_term.proofs.ListLemmas.{map_one}
use Rattle.esto_views.specs.Fragments.{views_of, patterns_of, weights_of}
use Rattle.esto_views.specs.declared.fragments.FragmentDef.{FragmentDef}
use Rattle.esto_text.specs.declared.version.Version.{Version}
use Rattle.esto_text.specs.declared.version.Version.TheVariants.{One, Two}
use Rattle.esto_catalog.proofs.AccessLemmas.{patterns_one, weight_one}
use Rattle.esto_catalog.specs.Access.{reads_patterns, allows_access, allows_weight}
use Rattle.esto_catalog.specs.Constraints.{reads_rule, reads_constraint, adds_constraint, reads_constraints}
use Rattle.esto_catalog.specs.Datasets.{name_row, columns_row, layout_and_file_rows, rows_after_name, reads_dataset, adds_dataset, reads_datasets}
use Rattle.esto_mapping.specs.Datasets.{schema_of, words_of}
use Rattle.esto_catalog.proofs.DatasetLemmas.{read_set}
use Rattle.esto_catalog.proofs.SchemaLemmas.{set_words}
use Rattle.esto_catalog.proofs.ShapeLemmas.{head_fit, names_are, view_reading}
use Rattle.esto_catalog.specs.Determined.{HaveOneCatalogue, HaveNoError, HaveOneError}
use Rattle.esto_mapping.specs.Catalogues.{AreSame as AreSameCatalogue, as_documents, shape_as, stored_as}
use Rattle.esto_catalog.specs.Models.{allows_layout, layout_row, layout_word, model_word, needs_model, unfit_row}
use Rattle.esto_catalog.specs.Rules.{all_rules}
use Rattle.esto_catalog.specs.Shapes.{AreDistinctNames, documents_row, head_columns, keys_row, pattern_row, reads_pattern, shape_row, store_columns, table_row}
use Rattle.esto_catalog.specs.Fragments.{reads_view, view_row, access_and_weight_rows, rows_after_file, rows_after_view, stored_fragment, reads_fragment}
use Rattle.esto_catalog.specs.Fragments.{adds_fragment, reads_fragments, no_fragments, with_fragment}
use Rattle.esto_catalog.specs.Reading.{IsCatalogueError, IsCycleOf, IsMadeOf, IsRankedOf, is_ranked, makes_catalogue, reads_catalogue}
use Rattle.esto_catalog.specs.Reading.{reads_fragments_and_rules, reads_ranked, reads_sections}
use Rattle.esto_catalog.specs.Rows.{IsWant, IsAny, fault_at, text_fault_at, IsLeastUnknown, knows_keys, needs_text, needs_texts, allows_text, top}
use Rattle.esto_settings.specs.Settings.{document_of, setting_at}
use Rattle.esto_catalog.specs.Whole.{number_of, top_keys, reads_toml, reads_version, reads_core, fits_section, reads_top, reads_whole}
use Rattle.esto_mapping.specs.declared.catalogue.Catalogue.{Catalogue}
use Rattle.esto_docmodel.specs.declared.file.Shape.{Shape}
use Rattle.esto_docmodel.specs.declared.file.Shape.TheVariants.{Documents as FromDocuments}
use Rattle.esto_docmodel.specs.declared.file.Store.{Store}
use Rattle.esto_mapping.specs.declared.dataset.Dataset.{Dataset}
use Rattle.esto_catalog.specs.declared.fault.CatalogueError.{CatalogueError}
use Rattle.esto_catalog.specs.declared.fault.CatalogueError.TheVariants.{Fault, NotAcyclic, OutOfMemory}
use Rattle.esto_status.specs.declared.fault.CatalogueKind.{CatalogueKind}
use Rattle.esto_status.specs.declared.fault.CatalogueKind.TheVariants.{BadPattern, UnknownKey}
use Rattle.esto_catalog.specs.declared.fault.Place.{Place}
use Rattle.esto_status.specs.declared.fault.Section.TheVariants as section
use Rattle.esto_catalog.specs.declared.row.Keys.{Keys as KeySet}
use Rattle.esto_catalog.specs.declared.row.Keys.TheVariants as keys
use Rattle.esto_catalog.specs.declared.fragment.Fragments.{Fragments}
use Rattle.esto_catalog.specs.declared.fragment.Stored.{Stored}
use Rattle.esto_catalog.specs.declared.walk.Ranked.{Ranked}
use Rattle.esto_catalog.specs.declared.whole.Sections.{Sections}
use Rattle.esto_settings.specs.declared.setting.Document.{Document}
use Rattle.esto_settings.specs.declared.setting.Field.{Field}
use Rattle.esto_settings.specs.declared.setting.Setting.{Setting}
use Rattle.esto_settings.specs.declared.setting.Setting.TheVariants.{Text, Integer, Texts, Other}

-- ---- records with a truncated fact are the same where the rest is

over_prop : {A C : Type 0} (B : A → Type 0) → ((a : A) (x y : B a) → x ≡ y) → (f : (a : A) → B a → C) → (a b : A) → a ≡ b → (x : B a) (y : B b) → f a x ≡ f b y
over_prop {A} B prop f a b same = let P : A → Type 0 = λ c. (x : B a) (y : B c) → f a x ≡ f c y in subst P same (λ x y. ap (f a) (prop a x y))

named_same : (query other : NamedQuery) → AreSame query other → query ≡ other
named_same query other (names, heads, bodies, variables) =
    let same : query.query ≡ other.query = same_query query.query other.query heads bodies variables in
    λ i. record { name = names i; query = same i }

rule_same : (rule other : Constraint) → AreSameRule rule other → rule ≡ other
rule_same (Tuple rule) (Tuple other) (bodies, heads, names) =
    let same : (rule.body, rule.head, rule.names) ≡ (other.body, other.head, other.names) = λ i. (bodies i, heads i, names i) in
    ap Tuple (over_prop (λ (p : List (Fact Term) × List (Fact Term) × List Name). ∥ IsSoundTuple p.0 p.1 p.2 ∥₁) (λ p. ∥∥₁_prop)
    (λ p sound. record { body = p.0; head = p.1; names = p.2; sound = sound }) _ _ same rule.sound other.sound)
rule_same (Equality rule) (Equality other) (bodies, lefts, rights, names) =
    let same : (rule.body, rule.left, rule.right, rule.names) ≡ (other.body, other.left, other.right, other.names) =
    λ i. (bodies i, lefts i, rights i, names i) in
    ap Equality (over_prop (λ (p : List (Fact Term) × Term × Term × List Name). ∥ IsSoundEquality p.0 p.1 p.2 p.3 ∥₁) (λ p. ∥∥₁_prop)
    (λ p sound. record { body = p.0; left = p.1; right = p.2; names = p.3; sound = sound }) _ _ same rule.sound other.sound)
rule_same (Never rule) (Never other) (bodies, names) =
    let same : (rule.body, rule.names) ≡ (other.body, other.names) = λ i. (bodies i, names i) in
    ap Never (over_prop (λ (p : List (Fact Term) × List Name). ∥ IsSoundDenial p.0 p.1 ∥₁) (λ p. ∥∥₁_prop)
    (λ p sound. record { body = p.0; names = p.1; sound = sound }) _ _ same rule.sound other.sound)
rule_same (Tuple rule) (Equality other) same = absurd same
rule_same (Tuple rule) (Never other) same = absurd same
rule_same (Equality rule) (Tuple other) same = absurd same
rule_same (Equality rule) (Never other) same = absurd same
rule_same (Never rule) (Tuple other) same = absurd same
rule_same (Never rule) (Equality other) same = absurd same

-- ---- the rows

tie : (first second : Ordering) → first ≡ ordering_reverse second → first ≢ Greater → second ≢ Greater → first ≡ Equal
tie Less Less is up down = cc
tie Less Equal is up down = cc
tie Less Greater is up down = absurd (down refl)
tie Equal second is up down = refl
tie Greater second is up down = absurd (up refl)

least_one : (keys : KeySet) (entry : List Field) (key other : List ℕ) → IsLeastUnknown keys entry key → IsLeastUnknown keys entry other → key ≡ other
least_one keys entry key other (unknown, least) (unknown', least') =
    exact_bytes key other (tie _ _ (nat_list_cmp_total.antisymm key other) (least other unknown') (least' key unknown))

keys_determined : (place : Place) (keys : KeySet) (entry : List Field) → IsDetermined (knows_keys place keys entry)
keys_determined place keys entry = judges_determined ◌≡◌ _ _
    (λ unit other known known'. refl)
    (λ error other (key, least, is) (key', least', is'). is ∙ (ap (fault_at UnknownKey place) (least_one keys entry key key' least least') ∙ sym is'))
    (λ unit error known (key, least, is). known key least.0)

text_determined : (place : Place) (key : List ℕ) (setting : Option Setting) → IsDetermined (needs_text place key setting)
text_determined place key None = refuses_determined _ _
text_determined place key (Some (Text text)) = gives_determined _ _
text_determined place key (Some (Integer n)) = refuses_determined _ _
text_determined place key (Some (Texts n)) = refuses_determined _ _
text_determined place key (Some Other) = refuses_determined _ _

texts_determined : (place : Place) (key : List ℕ) (setting : Option Setting) → IsDetermined (needs_texts place key setting)
texts_determined place key None = refuses_determined _ _
texts_determined place key (Some (Text text)) = refuses_determined _ _
texts_determined place key (Some (Integer n)) = refuses_determined _ _
texts_determined place key (Some (Texts n)) = gives_determined _ _
texts_determined place key (Some Other) = refuses_determined _ _

allowed_determined : (place : Place) (key : List ℕ) (setting : Option Setting) → IsDetermined (allows_text place key setting)
allowed_determined place key None = gives_determined _ _
allowed_determined place key (Some (Text text)) = gives_determined _ _
allowed_determined place key (Some (Integer n)) = refuses_determined _ _
allowed_determined place key (Some (Texts n)) = refuses_determined _ _
allowed_determined place key (Some Other) = refuses_determined _ _

toml_determined : (bytes : List ℕ) → IsDetermined (reads_toml bytes)
toml_determined bytes = judges_determined ◌≡◌ _ _
    (λ document other (pairs, table, is) (pairs', table', is').
    let same : pairs ≡ pairs' = same_Some pairs pairs' (sym table.1 ∙ table'.1) in is ∙ (ap document_of same ∙ sym is'))
    (λ error other (none, is) (none', is'). is ∙ sym is')
    (λ document error (pairs, table, is) (none, is'). none pairs table)

section_determined : (key : List ℕ) (section : Option (List (List Field))) → IsDetermined (fits_section key section)
section_determined key None = refuses_determined _ _
section_determined key (Some tables) = demands_determined _ _

version_one : (version other : Version) → number_of version ≡ number_of other → version ≡ other
version_one One One same = refl
version_one One Two same = absurd (omega (arith, same))
version_one Two One same = absurd (omega (arith, same))
version_one Two Two same = refl

version_determined : (setting : Option Setting) → IsDetermined (reads_version setting)
version_determined setting = judges_determined ◌≡◌ _ _
    (λ version other is is'. let same : Some (Integer (pos (number_of version))) ≡ Some (Integer (pos (number_of other))) = sym is ∙ is' in
    version_one version other (cc same))
    (λ error other (none, is) (none', is'). is ∙ sym is')
    (λ version error is (none, is'). none version is)

core_determined : (core : Option Bool) → IsDetermined (reads_core core)
core_determined None = refuses_determined _ _
core_determined (Some core) = gives_determined _ _

top_determined : (document : Document) → IsDetermined (reads_top document)
top_determined document =
    then_determined ◌≡◌ _ _ (keys_determined top (top_keys (setting_at (codes "version") document.fields)) document.fields) (λ unit known.
    then_determined ◌≡◌ _ _ (version_determined _) (λ version goes.
    then_determined ◌≡◌ _ _ (core_determined document.core) (λ core goes1.
    then_determined ◌≡◌ _ _ (section_determined _ document.datasets) (λ u goes2.
    then_determined ◌≡◌ _ _ (section_determined _ document.fragments) (λ v goes3.
    then_determined ◌≡◌ _ _ (section_determined _ document.constraints) (λ w goes4. gives_determined _ _))))))

whole_determined : (bytes : List ℕ) → IsDetermined (reads_whole bytes)
whole_determined bytes =
    then_determined ◌≡◌ _ _ (toml_determined bytes) (λ document goes.
    then_determined ◌≡◌ _ _ (top_determined document) (λ found goes1. gives_determined _ _))

-- ---- models and layouts

model_one : (model other : DataModel) → model_word model ≡ model_word other → model ≡ other
model_one Table Table same = refl
model_one Table Documents same = absurd cc
model_one Table Keys same = absurd cc
model_one Documents Table same = absurd cc
model_one Documents Documents same = refl
model_one Documents Keys same = absurd cc
model_one Keys Table same = absurd cc
model_one Keys Documents same = absurd cc
model_one Keys Keys same = refl

layout_one : (layout other : Layout) → layout_word layout ≡ layout_word other → layout ≡ other
layout_one Array Array same = refl
layout_one Array Lines same = let first : 97 ≡ 108 = ap (λ l. get_or l 0 0) same in absurd (omega (arith, first))
layout_one Lines Array same = let first : 108 ≡ 97 = ap (λ l. get_or l 0 0) same in absurd (omega (arith, first))
layout_one Lines Lines same = refl

model_determined : (kind : CatalogueKind) (place : Place) (key : List ℕ) (entry : List Field) → IsDetermined (needs_model kind place key entry)
model_determined kind place key entry = then_determined ◌≡◌ _ _ (text_determined place _ _) (λ text goes. judges_determined ◌≡◌ _ _
    (λ model other is is'. model_one model other (sym is ∙ is'))
    (λ error other (none, is) (none', is'). is ∙ sym is')
    (λ model error is (none, is'). none model is))

free_determined : (key : List ℕ) (place : Place) (entry : List Field) → IsDetermined (unfit_row key place entry)
free_determined key place entry = demands_determined _ _

allowed_layout_determined : (place : Place) (setting : Option Setting) → IsDetermined (allows_layout place setting)
allowed_layout_determined place None = gives_determined _ _
allowed_layout_determined place (Some (Text text)) = judges_determined ◌≡◌ _ _
    (λ layout other is is'. layout_one layout other (sym is ∙ is'))
    (λ error other (none, is) (none', is'). is ∙ sym is')
    (λ layout error is (none, is'). none layout is)
allowed_layout_determined place (Some (Integer n)) = refuses_determined _ _
allowed_layout_determined place (Some (Texts n)) = refuses_determined _ _
allowed_layout_determined place (Some Other) = refuses_determined _ _

layout_determined : (place : Place) (model : DataModel) (entry : List Field) → IsDetermined (layout_row place model entry)
layout_determined place Table entry = then_determined ◌≡◌ _ _ (free_determined _ place entry) (λ unit free. gives_determined _ _)
layout_determined place Documents entry = allowed_layout_determined place _
layout_determined place Keys entry = then_determined ◌≡◌ _ _ (free_determined _ place entry) (λ unit free. gives_determined _ _)

-- ---- datasets

columns_determined : (place : Place) (model : DataModel) (entry : List Field) → IsDetermined (columns_row place model entry)
columns_determined place Table entry = then_determined ◌≡◌ _ _ (texts_determined place _ _)
    (λ texts goes. then_determined ◌≡◌ _ _ (demands_determined _ _) (λ u g. gives_determined _ _))
columns_determined place Documents entry = then_determined ◌≡◌ _ _ (free_determined _ place entry) (λ unit free. gives_determined _ _)
columns_determined place Keys entry = then_determined ◌≡◌ _ _ (free_determined _ place entry) (λ unit free. gives_determined _ _)

name_determined : (place : Place) (earlier : List Dataset) (entry : List Field) → IsDetermined (name_row place earlier entry)
name_determined place earlier entry =
    then_determined ◌≡◌ _ _ (text_determined place _ _) (λ name goes. then_determined ◌≡◌ _ _ (demands_determined _ _)
    (λ u g. then_determined ◌≡◌ _ _ (demands_determined _ _) (λ v h. gives_determined _ _)))

last_determined : (place : Place) (model : DataModel) (entry : List Field) → IsDetermined (layout_and_file_rows place model entry)
last_determined place model entry =
    then_determined ◌≡◌ _ _ (layout_determined place model entry) (λ layout goes.
    then_determined ◌≡◌ _ _ (allowed_determined place _ _) (λ file goes1. gives_determined _ _))

rows_determined : (place : Place) (entry : List Field) → IsDetermined (rows_after_name place entry)
rows_determined place entry =
    then_determined ◌≡◌ _ _ (model_determined _ place _ entry) (λ model goes.
    then_determined ◌≡◌ _ _ (columns_determined place model entry) (λ columns goes1.
    then_determined ◌≡◌ _ _ (last_determined place model entry) (λ last goes2. gives_determined _ _)))

dataset_determined : (place : Place) (earlier : List Dataset) (entry : List Field) → IsDetermined (reads_dataset place earlier entry)
dataset_determined place earlier entry =
    then_determined ◌≡◌ _ _ (keys_determined place keys.Dataset entry) (λ unit known.
    then_determined ◌≡◌ _ _ (name_determined place earlier entry) (λ name goes.
    then_determined ◌≡◌ _ _ (rows_determined place entry) (λ rest goes1. gives_determined _ _)))

pub datasets_determined : (entries : List (List Field)) → IsDetermined (reads_datasets entries)
datasets_determined entries = each_determined adds_dataset (λ number earlier entry. then_determined ◌≡◌
    (reads_dataset (record { section = section.Dataset; number = number }) earlier entry) (λ dataset. gives (earlier ++ dataset ∷ []))
    (dataset_determined (record { section = section.Dataset; number = number }) earlier entry) (λ dataset goes. gives_determined _ _)) 1 [] entries

-- ---- the rows that read texts

-- ---- what is the same up to the entries of patterns

abbrev AreSameEntries : Pattern → Pattern → Type 0
AreSameEntries pattern other = entries_of pattern.entries ≡ entries_of other.entries

abbrev AreSameShape : Shape → Shape → Type 0
AreSameShape shape other = (file : List ℕ) → shape_as shape file ≡ shape_as other file

-- the shape, the patterns and the weight
abbrev AreSameParts : Shape × List (List Bool) × ℕ → Shape × List (List Bool) × ℕ → Type 0
AreSameParts parts others = AreSameShape parts.0 others.0 × (parts.1 ≡ others.1) × (parts.2 ≡ others.2)

-- the store, the patterns and the weight
abbrev AreSameRest : Store × List (List Bool) × ℕ → Store × List (List Bool) × ℕ → Type 0
AreSameRest rest others = (stored_as rest.0 ≡ stored_as others.0) × (rest.1 ≡ others.1) × (rest.2 ≡ others.2)

abbrev AreSameStored : Stored → Stored → Type 0
AreSameStored stored other = (stored.definition ≡ other.definition) × (stored_as stored.store ≡ stored_as other.store)

abbrev AreSameFragments : Fragments → Fragments → Type 0
AreSameFragments fragments others = (fragments.definitions ≡ others.definitions) × (map stored_as fragments.stores ≡ map stored_as others.stores)

-- what follows once a pattern is read, and once its text is
abbrev checks : Place → Query → Pattern → Course CatalogueError Pattern
checks place view pattern =
    and_then (demands (IsLayout (length view.head) (entries_of pattern.entries)) (fault_at BadPattern place (codes "pattern"))) (λ _. gives pattern)

abbrev reads_on : Place → Query → List ℕ → Course CatalogueError Pattern
reads_on place view text = and_then (reads_pattern place view text) (checks place view)

-- two values that count as the same
gives_alike : {E A : Type 0} (caused : E → Type 0) (Same : A → A → Type 0) (value other : A) → Same value other
    → Agree caused Same (gives {E = E} value) (gives other)
unfolding gives
gives_alike caused Same value other alike = record {
  one = λ one two here there. subst (λ t. Same one t) (sym there) (subst (λ t. Same t other) (sym here) alike);
  one_stop = λ error other_error because because' here there. absurd here;
  apart = λ one error because here there. there;
  other_apart = λ one error because here there. there;
  alike = nothing_alike caused (λ it. it ≡ value) (λ it. it ≡ other) (λ _. ⊥) (λ _. ⊥);
}

stopped : (place : Place) (view : Query) (pattern : Pattern) (error : CatalogueError) → (checks place view pattern).stops error
    → (¬ IsLayout (length view.head) (entries_of pattern.entries)) × (error ≡ fault_at BadPattern place (codes "pattern"))
unfolding and_then demands gives
stopped place view pattern error stops = elim stops [ inl none ↦ none | inr (v, holds, never) ↦ absurd never ]

checked : (place : Place) (view : Query) (pattern other : Pattern) → AreSameEntries pattern other
    → Agree (λ _. Unit {0}) AreSameEntries (checks place view pattern) (checks place view other)
unfolding and_then demands gives
checked place view pattern other alike = record {
  one = λ value other_value (u, holds, is) (v, holds', is').
      ap (λ (p : Pattern). entries_of p.entries) is ∙ alike ∙ sym (ap (λ (p : Pattern). entries_of p.entries) is');
  one_stop = λ error other_error because because' stops stops'. (stopped place view pattern error stops).1
      ∙ sym (stopped place view other other_error stops').1;
  apart = λ value error because (u, holds, is) stops. (stopped place view other error stops).0 (subst (IsLayout (length view.head)) alike holds);
  other_apart = λ value error because (u, holds, is) stops.
      (stopped place view pattern error stops).0 (subst (IsLayout (length view.head)) (sym alike) holds);
  alike =
      let fault = fault_at BadPattern place (codes "pattern") in
      let fits : Pattern → Type 0 = λ it. IsLayout (length view.head) (entries_of it.entries) in
      then_alike (λ _. Unit {0}) (λ _ _. Unit {0}) (demands (fits pattern) fault) (demands (fits other) fault) (λ _. gives pattern) (λ _. gives other)
      (λ _ _ _ _. tt) (λ _ error because holds stop. stop.0 (subst (IsLayout (length view.head)) alike holds))
      (λ _ error because holds stop. stop.0 (subst (IsLayout (length view.head)) (sym alike) holds))
      (nothing_alike (λ _. Unit {0}) (λ _. fits pattern) (λ _. fits other) (λ it. ¬ (fits pattern) × (it ≡ fault)) (λ it. ¬ (fits other) × (it ≡ fault)))
      (λ _ _ _ _. nothing_alike (λ _. Unit {0}) (λ it. it ≡ pattern) (λ it. it ≡ other) (λ _. ⊥) (λ _. ⊥));
}

shape_agree : (shape other : Shape) → AreSameShape shape other → Agree (λ _. Unit {0}) AreSameShape (gives {E = CatalogueError} shape) (gives other)
shape_agree shape other alike = gives_alike (λ _. Unit {0}) AreSameShape shape other alike

shape_itself : (shape : Shape) → IsDeterminedUpTo AreSameShape (gives {E = CatalogueError} shape)
shape_itself shape = shape_agree shape shape (λ file. refl)

stored_agree : (view : NamedQuery) (rest others : Store × List (List Bool) × ℕ) → AreSameRest rest others
    → Agree (λ _. Unit {0}) AreSameStored (gives {E = CatalogueError} (stored_fragment view rest.0 rest.1 rest.2))
    (gives (stored_fragment view others.0 others.1 others.2))
stored_agree view rest others (stores, access, weights) =
    gives_alike (λ _. Unit {0}) AreSameStored _ _ ((λ i. record { name = view.name; view = view.query; access = access i; weight = weights i }), stores)

fragments_agree : (earlier others : Fragments) (stored other : Stored) → AreSameFragments earlier others → AreSameStored stored other
    → Agree (λ _. Unit {0}) AreSameFragments (gives {E = CatalogueError} (with_fragment earlier stored)) (gives (with_fragment others other))
fragments_agree earlier others stored other (same, alike) (same', alike') =
    gives_alike (λ _. Unit {0}) AreSameFragments _ _ (
      (λ i. same i ++ same' i ∷ []),
      map-append stored_as earlier.stores (stored.store ∷ []) ∙ (λ i. alike i ++ alike' i ∷ []) ∙ sym (map-append stored_as others.stores (other.store ∷ [])),
    )

module _ (one : HaveOneReading) (no_fault : HaveNoFault) (one_fault : HaveOneFault) (name_columns : ViewsNameTheirColumns) (one_layout : HaveOneLayout)
    (no_layout_fault : HaveNoLayoutFault) (one_layout_fault : HaveOneLayoutFault) (datasets : List Dataset)
    (words : IsVocabulary (arities_of (schema_of datasets)) (words_of datasets)) where
  view_determined : (place : Place) (text : List ℕ) → IsDetermined (reads_view place datasets text)
  view_determined place text = judges_determined ◌≡◌ _ _
      (λ view other reads reads'. named_same view other (one View _ _ text view other words reads reads'))
      (λ error other (fault, first, is) (fault', first', is'). is ∙ (ap (λ f. text_fault_at f place (codes "view"))
      (one_fault View _ _ text fault fault' words first first') ∙ sym is'))
      (λ view error reads (fault, first, is). no_fault View _ _ text view fault words reads first)

  view_row_determined : (place : Place) (earlier : List FragmentDef) (entry : List Field) → IsDetermined (view_row place datasets earlier entry)
  view_row_determined place earlier entry =
      then_determined ◌≡◌ _ _ (text_determined place _ _) (λ text goes. then_determined ◌≡◌ _ _ (view_determined place text)
      (λ view reads. then_determined ◌≡◌ _ _ (demands_determined _ _) (λ u g. gives_determined _ _)))

  store_columns_determined : (place : Place) (view : Query) (setting : Option Setting) → IsDetermined (store_columns place view setting)
  store_columns_determined place view None = gives_determined _ _
  store_columns_determined place view (Some (Text text)) = refuses_determined _ _
  store_columns_determined place view (Some (Integer n)) = refuses_determined _ _
  store_columns_determined place view (Some (Texts columns)) = then_determined ◌≡◌ _ _ (demands_determined _ _) (λ u g. gives_determined _ _)
  store_columns_determined place view (Some Other) = refuses_determined _ _

  patterns_determined : (place : Place) (columns : ℕ) (texts : List (List ℕ)) → IsDetermined (reads_patterns place columns texts)
  patterns_determined place columns texts = judges_determined ◌≡◌ _ _ (patterns_one columns texts)
      (λ error other (none, is) (none', is'). is ∙ sym is')
      (λ patterns error are (none, is). none patterns are)

  access_determined : (place : Place) (model : DataModel) (columns : ℕ) (setting : Option Setting) → IsDetermined (allows_access place model columns setting)
  access_determined place model columns None = gives_determined _ _
  access_determined place model columns (Some (Text text)) = patterns_determined place columns (text ∷ [])
  access_determined place model columns (Some (Texts texts)) = patterns_determined place columns texts
  access_determined place model columns (Some (Integer n)) = refuses_determined _ _
  access_determined place model columns (Some Other) = refuses_determined _ _

  weight_determined : (place : Place) (setting : Option Setting) → IsDetermined (allows_weight place setting)
  weight_determined place None = gives_determined _ _
  weight_determined place (Some (Integer number)) = judges_determined ◌≡◌ _ _ (weight_one number)
      (λ error other (none, is) (none', is'). is ∙ sym is')
      (λ weight error is (none, is'). none weight is)
  weight_determined place (Some (Text text)) = refuses_determined _ _
  weight_determined place (Some (Texts texts)) = refuses_determined _ _
  weight_determined place (Some Other) = refuses_determined _ _

  -- the shape of a view whose head's names are told apart
  module _ (place : Place) (view : Query) (entry : List Field) (distinct : AreDistinctNames view) where
    pattern_determined : IsDeterminedUpTo AreSameEntries (pattern_row place view entry)
    pattern_determined =
        then_agree (λ _. Unit {0}) ◌≡◌ AreSameEntries _ _ _ _ (text_determined place _ _) (λ text text' goes same.
        subst (λ t. Agree (λ _. Unit {0}) AreSameEntries (reads_on place view text) (reads_on place view t)) same
        (then_agree (λ _. Unit {0}) AreSameEntries AreSameEntries _ _ _ _ (reading text) (λ pattern other reads alike. checked place view pattern other
        alike))) where
          named : AreNamed (map Given (head_columns view))
          named = names_are (head_columns view) distinct

          reading : (text : List ℕ) → IsDeterminedUpTo AreSameEntries (reads_pattern place view text)
          reading text = judges_determined AreSameEntries _ _
              (λ pattern other reads reads'. one_layout _ text pattern other named reads reads')
              (λ error other (fault, first, is) (fault', first', is'). is ∙ (ap (λ f. text_fault_at f place (codes "pattern"))
              (one_layout_fault _ text fault fault' named first first') ∙ sym is'))
              (λ pattern error reads (fault, first, is). no_layout_fault _ text pattern fault named reads first)

    table_determined : IsDeterminedUpTo AreSameShape (table_row place view entry)
    table_determined =
        then_determined AreSameShape _ _ (store_columns_determined place view _) (λ columns goes.
        then_determined AreSameShape _ _ (free_determined _ place entry) (λ u free.
        then_determined AreSameShape _ _ (free_determined _ place entry) (λ v free'. shape_itself _)))

    documents_determined : IsDeterminedUpTo AreSameShape (documents_row place view entry)
    documents_determined =
        then_determined AreSameShape _ _ (free_determined _ place entry) (λ u free.
        then_determined AreSameShape _ _ (layout_determined place Documents entry) (λ layout goes.
        then_agree (λ _. Unit {0}) AreSameEntries AreSameShape _ _ _ _ pattern_determined (λ pattern other reads alike.
        shape_agree (FromDocuments layout pattern) (FromDocuments layout other) (λ file. ap (λ entries. as_documents layout entries file) alike))))

    keys_determined_as : IsDeterminedUpTo AreSameShape (keys_row place entry)
    keys_determined_as =
        then_determined AreSameShape _ _ (free_determined _ place entry) (λ u free.
        then_determined AreSameShape _ _ (free_determined _ place entry) (λ v free'.
        then_determined AreSameShape _ _ (free_determined _ place entry) (λ w free''. shape_itself _)))

    shape_determined : (model : DataModel) → IsDeterminedUpTo AreSameShape (shape_row place model view entry)
    shape_determined Table = table_determined
    shape_determined Documents = documents_determined
    shape_determined Keys = keys_determined_as

    last_rows_determined : (model : DataModel) → IsDetermined (access_and_weight_rows place model view entry)
    last_rows_determined model =
        then_determined ◌≡◌ _ _ (access_determined place model _ _) (λ access goes.
        then_determined ◌≡◌ _ _ (weight_determined place _) (λ weight goes1. gives_determined _ _))

    after_file_determined : (model : DataModel) → IsDeterminedUpTo AreSameParts (rows_after_file place model view entry)
    after_file_determined model =
        then_agree (λ _. Unit {0}) AreSameShape AreSameParts _ _ _ _ (shape_determined model) (λ shape other goes alike.
        then_agree (λ _. Unit {0}) ◌≡◌ AreSameParts _ _ _ _ (last_rows_determined model) (λ last last' goes1 same.
        gives_alike (λ _. Unit {0}) AreSameParts _ _
        (alike, ap (λ (it : List (List Bool) × ℕ). it.0) same, ap (λ (it : List (List Bool) × ℕ). it.1) same)))

    after_view_determined : IsDeterminedUpTo AreSameRest (rows_after_view place view entry)
    after_view_determined =
        then_determined AreSameRest _ _ (model_determined _ place _ entry) (λ model goes.
        then_determined AreSameRest _ _ (text_determined place _ _) (λ file goes1.
        then_agree (λ _. Unit {0}) AreSameParts AreSameRest _ _ _ _ (after_file_determined model) (λ parts others goes2 (alike, access, weights).
        gives_alike (λ _. Unit {0}) AreSameRest _ _ (alike file, access, weights))))

  fragment_determined : (place : Place) (earlier : List FragmentDef) (entry : List Field)
      → IsDeterminedUpTo AreSameStored (reads_fragment place datasets earlier entry)
  fragment_determined place earlier entry =
      then_determined AreSameStored _ _ (keys_determined place keys.Fragment entry) (λ unit known.
      then_determined AreSameStored _ _ (view_row_determined place earlier entry) (λ view goes.
      then_agree (λ _. Unit {0}) AreSameRest AreSameStored _ _ _ _ (after_view_determined place view.query entry (distinct view goes))
      (λ rest others goes1 alike. stored_agree view rest others alike))) where
        distinct : (view : NamedQuery) → (view_row place datasets earlier entry).goes view → AreDistinctNames view.query
        distinct view goes =
            let reading = view_reading place datasets earlier entry view goes in
            let names = name_columns _ _ reading.0 view reading.1 in
            (head_fit view.query names.0 names.1).distinct

  abbrev entry_place : ℕ → Place
  entry_place number = record { section = section.Fragment; number = number }

  added_agree : (number : ℕ) (earlier others : Fragments) (entry : List Field) → AreSameFragments earlier others
      → Agree (λ _. Unit {0}) AreSameFragments (adds_fragment datasets number earlier entry) (adds_fragment datasets number others entry)
  added_agree number earlier others entry (same, alike) =
      then_agree (λ _. Unit {0}) AreSameStored AreSameFragments _ _ _ _
      (subst (λ (d : List FragmentDef). Agree (λ _. Unit {0}) AreSameStored (reads_fragment (entry_place number) datasets earlier.definitions entry)
      (reads_fragment (entry_place number) datasets d entry)) same (fragment_determined (entry_place number) earlier.definitions entry))
      (λ stored other goes both. fragments_agree earlier others stored other (same, alike) both)

  all_agree : (number : ℕ) (earlier others : Fragments) (entries : List (List Field)) → AreSameFragments earlier others
      → Agree (λ _. Unit {0}) AreSameFragments (each (adds_fragment datasets) number earlier entries) (each (adds_fragment datasets) number others entries)
  all_agree number earlier others [] alike = gives_alike (λ _. Unit {0}) AreSameFragments earlier others alike
  all_agree number earlier others (entry ∷ entries) alike =
      then_agree (λ _. Unit {0}) AreSameFragments AreSameFragments _ _ _ _ (added_agree number earlier others entry alike)
      (λ next other goes more. all_agree (suc number) next other entries more)

  pub fragments_determined : (entries : List (List Field)) → IsDeterminedUpTo AreSameFragments (reads_fragments datasets entries)
  fragments_determined entries = all_agree 1 no_fragments no_fragments entries (refl, refl)

module _ (one : HaveOneRule) (no_fault : HaveNoRuleFault) (one_fault : HaveOneRuleFault) (datasets : List Dataset)
    (words : IsVocabulary (arities_of (schema_of datasets)) (words_of datasets)) where
  rule_determined : (version : Version) (place : Place) (text : List ℕ) → IsDetermined (reads_rule version place datasets text)
  rule_determined version place text = judges_determined ◌≡◌ _ _
      (λ rule other reads reads'. rule_same rule other (one version _ _ text rule other words reads reads'))
      (λ error other (fault, first, is) (fault', first', is'). is ∙ (ap (λ f. text_fault_at f place (codes "rule"))
      (one_fault version _ _ text fault fault' words first first') ∙ sym is'))
      (λ rule error reads (fault, first, is). no_fault version _ _ text rule fault words reads first)

  constraint_determined : (version : Version) (place : Place) (entry : List Field) → IsDetermined (reads_constraint version place datasets entry)
  constraint_determined version place entry =
      then_determined ◌≡◌ _ _ (keys_determined place keys.Constraint entry) (λ unit known. then_determined ◌≡◌ _ _ (text_determined place _ _)
      (λ text goes. rule_determined version place text))

  pub constraints_determined : (version : Version) (entries : List (List Field)) → IsDetermined (reads_constraints version datasets entries)
  constraints_determined version entries = each_determined (adds_constraint version datasets)
      (λ number earlier entry. then_determined ◌≡◌ (reads_constraint version (record { section = section.Constraint; number = number }) datasets entry)
      (λ rule. gives (earlier ++ rule ∷ [])) (constraint_determined version (record { section = section.Constraint; number = number }) entry)
      (λ rule goes. gives_determined _ _)) 1 [] entries

-- ---- the end of the walk

error_stops : (bytes : List ℕ) (cause : CatalogueError) → IsCatalogueError bytes cause → (cause ≡ OutOfMemory) ⊎ (reads_catalogue bytes).stops cause
error_stops bytes (Fault fault) stops = inr stops
error_stops bytes (NotAcyclic cycle) stops = inr stops
error_stops bytes OutOfMemory stops = inl refl

pub error_of : (bytes : List ℕ) (cause : CatalogueError) → Stops IsWant IsAny (reads_catalogue bytes) cause → IsCatalogueError bytes cause
error_of bytes cause (is_free is) = subst (IsCatalogueError bytes) (sym is) tt
error_of bytes (Fault fault) (refused because stops) = stops
error_of bytes (NotAcyclic cycle) (refused because stops) = stops
error_of bytes OutOfMemory (refused because stops) = tt

-- the uniqueness of ranks and of least cycles
abbrev pub HaveOneRanks : Type 0
HaveOneRanks = (rules : List Rule) (count : ℕ) (ranks others : List ℕ) → AreRanks (IsEdge rules) count ranks → AreRanks (IsEdge rules) count others
    → ranks ≡ others

abbrev pub HaveOneCycle : Type 0
HaveOneCycle = (rules : List Rule) (relations others : List ℕ) → IsLeastCycle (IsEdge rules) relations → IsLeastCycle (IsEdge rules) others → relations ≡ others

-- the same rules, up to what they mean, with the same ranks
record AreSameRanked (ranked other : Ranked) : Type 0 where
  rules : rules_of ranked.rules ≡ rules_of other.rules
  names : map written ranked.rules ≡ map written other.rules
  given : ranked.given ≡ other.given
  ranks : ranked.ranks ≡ other.ranks

module _ (one_ranks : HaveOneRanks) (one_cycle : HaveOneCycle) (version : Version) (datasets : List Dataset) (own : List Constraint) where
  same_ranked : (ranked other : Ranked) → IsRankedOf version datasets own ranked → IsRankedOf version datasets own other → AreSameRanked ranked other
  same_ranked ranked other are are' = record {
    rules = are.rules.all ∙ sym are'.rules.all;
    names = are.rules.names ∙ sym are'.rules.names;
    given = are.given_are ∙ sym are'.given_are;
    ranks = one_ranks (all_rules version datasets own) _ _ _ are.ranks are'.ranks;
  }

  same_cycle : (cycle other : Cycle) → IsCycleOf datasets (all_rules version datasets own) cycle → IsCycleOf datasets (all_rules version datasets own) other
      → cycle ≡ other
  same_cycle cycle other (least, names) (least', names') =
      let relations : cycle.relations ≡ other.relations = one_cycle (all_rules version datasets own) _ _ least least' in
      let all : cycle.names ≡ other.names =
      map_one Some same_Some _ _ (names ∙ (ap (map (slice_get (names_of (schema_of datasets)))) relations ∙ sym names')) in
      λ i. record { relations = relations i; names = all i }

  ranked_determined : IsDeterminedUpTo AreSameRanked (is_ranked version datasets own)
  ranked_determined = judges_determined AreSameRanked _ _ (λ ranked other are are'. same_ranked ranked other are are')
      (λ error other (cycle, is_cycle, is) (cycle', is_cycle', is'). is ∙ (ap NotAcyclic (same_cycle cycle cycle' is_cycle is_cycle') ∙ sym is'))
      (λ ranked error are (cycle, is_cycle, is). are.acyclic is_cycle.0.start cycle.relations is_cycle.0.here.cycle)

abbrev AreSameFound : Fragments × Ranked → Fragments × Ranked → Type 0
AreSameFound found others = AreSameFragments found.0 others.0 × AreSameRanked found.1 others.1

module _ (core : Bool) (datasets : List Dataset) (found others : Fragments × Ranked) (same : AreSameFound found others) where
  same_catalogue : (catalogue other : Catalogue) → IsMadeOf core datasets found.0 found.1 catalogue → IsMadeOf core datasets others.0 others.1 other
      → AreSameCatalogue catalogue other
  same_catalogue catalogue other made made' =
      let fragments : catalogue.fragments ≡ other.fragments = made.definitions ∙ same.0.0 ∙ sym made'.definitions in
      record {
        schema = made.schema ∙ sym made'.schema;
        words = made.words ∙ sym made'.words;
        datasets = made.same_datasets ∙ sym made'.same_datasets;
        names = ap (map (λ (fragment : FragmentDef). fragment.name)) fragments;
        views = ap views_of fragments;
        patterns = ap patterns_of fragments;
        weights = ap weights_of fragments;
        stores = ap (map stored_as) made.stores ∙ same.0.1 ∙ sym (ap (map stored_as) made'.stores);
        rules = ap rules_of made.rules ∙ same.1.rules ∙ sym (ap rules_of made'.rules);
        rule_names = ap (map written) made.rules ∙ same.1.names ∙ sym (ap (map written) made'.rules);
        given = made.given ∙ same.1.given ∙ sym made'.given;
        ranks = made.ranks ∙ same.1.ranks ∙ sym made'.ranks;
        core = made.core_is ∙ sym made'.core_is;
      }

  catalogue_agree : Agree (λ _. Unit {0}) AreSameCatalogue (makes_catalogue core datasets found.0 found.1) (makes_catalogue core datasets others.0 others.1)
  catalogue_agree = judges_agree (λ _. Unit {0}) AreSameCatalogue _ _ _ _ (λ catalogue other made made'. same_catalogue catalogue other made made')
      (λ error other because because' never never'. absurd never)
      (λ catalogue error because made never. never) (λ catalogue error because made never. never)

module _ (one : HaveOneReading) (no_fault : HaveNoFault) (one_fault : HaveOneFault) (name_columns : ViewsNameTheirColumns) (one_layout : HaveOneLayout)
    (no_layout_fault : HaveNoLayoutFault) (one_layout_fault : HaveOneLayoutFault) (one_rule : HaveOneRule) (no_rule_fault : HaveNoRuleFault)
    (one_rule_fault : HaveOneRuleFault) (one_ranks : HaveOneRanks) (one_cycle : HaveOneCycle) where
  found_determined : (sections : Sections) (datasets : List Dataset) → IsVocabulary (arities_of (schema_of datasets)) (words_of datasets)
      → IsDeterminedUpTo AreSameFound (reads_fragments_and_rules sections datasets)
  found_determined sections datasets words =
      then_agree (λ _. Unit {0}) AreSameFragments AreSameFound _ _ _ _
      (fragments_determined one no_fault one_fault name_columns one_layout no_layout_fault one_layout_fault datasets words sections.fragments)
      (λ fragments others goes alike.
      then_agree (λ _. Unit {0}) AreSameRanked AreSameFound _ _ _ _ rules (λ ranked other goes1 same.
      gives_alike (λ _. Unit {0}) AreSameFound _ _ (alike, same))) where
        rules : IsDeterminedUpTo AreSameRanked (reads_ranked sections datasets)
        rules =
            then_determined AreSameRanked _ _
            (constraints_determined one_rule no_rule_fault one_rule_fault datasets words sections.version sections.constraints)
            (λ own goes. ranked_determined one_ranks one_cycle sections.version datasets own)

  sections_determined : (sections : Sections) → IsDeterminedUpTo AreSameCatalogue (reads_sections sections)
  sections_determined sections =
      then_determined AreSameCatalogue _ _ (datasets_determined sections.datasets) (λ datasets read.
      then_agree (λ _. Unit {0}) AreSameFound AreSameCatalogue _ _ _ _
      (found_determined sections datasets (set_words datasets (read_set sections.datasets datasets read).0))
      (λ found others goes same. catalogue_agree sections.core datasets found others same))

  walk_determined : (bytes : List ℕ) → IsDeterminedUpTo AreSameCatalogue (reads_catalogue bytes)
  walk_determined bytes = then_determined AreSameCatalogue _ _ (whole_determined bytes) (λ sections goes. sections_determined sections)

  pub have_one_catalogue : HaveOneCatalogue
  have_one_catalogue bytes catalogue other reads reads' = (walk_determined bytes).one catalogue other reads reads'

  pub have_no_error : HaveNoError
  have_no_error bytes catalogue cause reads error = elim (error_stops bytes cause error) [
    | inl want ↦ want
    | inr stops ↦ absurd ((walk_determined bytes).apart catalogue cause tt reads stops)
  ]

  pub have_one_error : HaveOneError
  have_one_error bytes cause other error error' not not' = elim (error_stops bytes cause error) [
    | inl want ↦ absurd (not want)
    | inr stops ↦ elim (error_stops bytes other error') [
      | inl want ↦ absurd (not' want)
      | inr stops' ↦ (walk_determined bytes).one_stop cause other tt tt stops stops'
    ]
  ]
