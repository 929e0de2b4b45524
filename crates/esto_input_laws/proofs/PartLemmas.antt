-- The rows of fragments and of constraints go on, with what is sound, or stop.
use Rattle.std.proofs.Common.{◌≡◌, ℕ, suc, ℤ, ◌≤◌, ◌||◌, inl, inr, pos, Bool, true, false, List, [], ◌∷◌, ◌++◌, length, map, Option, Some, None, codes}
use Rattle.std.proofs.Common.{refl, sym, ap, subst, ◌∙◌}
use Rattle.std.specs.Prelude.{Contains, negsuc}
use Rattle.std.proofs.lemmas.Bool.{cases_eq}
use Rattle.esto_constraint.specs.Constraints.{rule_of}
use Rattle.esto_constraint.specs.declared.rule.Constraint.{Constraint}
use Rattle.esto_constraint.specs.declared.rule.Constraint.TheVariants.{Tuple, Equal, Never}
use Rattle.esto_docmodel.specs.Shapes.{entries_of}
use Rattle.esto_query.specs.Schemas.{arities_of}
use Rattle.esto_query.specs.declared.query.Name.TheVariants.{Given}
use Rattle.esto_query.specs.declared.query.Query.{Query}
use Rattle.esto_read.proofs.NamingLemmas.{views_named}
use Rattle.esto_read.proofs.ReadLemmas.{query_parts, over, head_is}
use Rattle.esto_read.proofs.RuleLemmas.{tuple_parts, equality_parts, denial_parts}
use Rattle.esto_read.specs.Constraints.{IsConstraintReading, IsConstraintFault, IsRuleOf}
use Rattle.esto_read.specs.Layouts.{IsLayoutReading, IsLayoutFault}
use Rattle.esto_read.specs.Readings.{IsReading, IsFirstFault}
use Rattle.esto_docmodel.specs.Words.{IsVocabulary}
use Rattle.esto_read.specs.declared.read.Form.TheVariants.{View}
use Rattle.esto_read.specs.declared.read.NamedQuery.{NamedQuery}
use Rattle.esto_docmodel.specs.declared.words.DataModel.{DataModel}
use Rattle.esto_docmodel.specs.declared.words.DataModel.TheVariants.{Table, Documents, Keys as KeyFile}
use Rattle.esto_docmodel.specs.declared.words.Word.{Word}
use Rattle.esto_semantics.specs.WellFormed.{IsRuleOver}
use Rattle.esto_settings.specs.Settings.{setting_at}
use Rattle.esto_settings.specs.declared.setting.Field.{Field}
use Rattle.esto_settings.specs.declared.setting.Setting.{Setting}
use Rattle.esto_settings.specs.declared.setting.Setting.TheVariants.{Text, Integer, Texts, Other}
use Rattle.esto_term.proofs.ChoiceLemmas.{Decided, decided_as, decided_both}
use Rattle.esto_term.proofs.ListLemmas.{Contains-cases, Contains-nil, Contains-head, Contains-rest}
use Rattle.esto_text.proofs.LeafLemmas.{tree_stands, constraint_stands}
use Rattle.esto_text.specs.Faults.{IsFalse, IsConstraintText, ConstraintStandsAt}
use Rattle.esto_text.specs.Limits.{limited}
use Rattle.esto_text.specs.Trees.{HeadTree, Items, Equality, Never as Nothing}
use Rattle.esto_text.specs.declared.fault.TextFault.{TextFault}
use Rattle.esto_text.specs.declared.version.Version.{Version}
use Rattle.esto_views.specs.declared.fragments.FragmentDef.{FragmentDef}
use Rattle.esto_catalog.proofs.DatasetLemmas.{datasets_set}
use Rattle.esto_catalog.proofs.FragmentLemmas.{rows_fit}
use Rattle.esto_catalog.proofs.SchemaLemmas.{set_words}
use Rattle.esto_catalog.proofs.ShapeLemmas.{head_fit, view_reading}
use Rattle.esto_catalog.proofs.WalkLemmas.{stored_sound, fragments_grown, no_fragments_sound, rules_more, no_rules}
use Rattle.esto_catalog.specs.Access.{letter_of, written_pattern, ArePatterns, reads_patterns, usual_pattern, allows_access, IsWeight, reads_weight}
use Rattle.esto_catalog.specs.Access.{allows_weight}
use Rattle.esto_catalog.specs.Constraints.{reads_rule, reads_constraint, adds_constraint, reads_constraints}
use Rattle.esto_catalog.specs.Datasets.{has_dataset, AreDatasets}
use Rattle.esto_mapping.specs.Datasets.{schema_of, words_of}
use Rattle.esto_catalog.specs.Fragments.{has_fragment, reads_view, view_row, rows_after_view, stored_fragment}
use Rattle.esto_catalog.specs.Fragments.{reads_fragment, with_fragment, no_fragments, adds_fragment, reads_fragments}
use Rattle.esto_catalog.specs.Rows.{fault_at, text_fault_at}
use Rattle.esto_catalog.specs.Shapes.{head_columns, store_columns, reads_pattern, pattern_row, shape_row}
use Rattle.esto_catalog.specs.Soundness.{IsSoundView, IsSoundStored, AreSoundFragments, AreSoundRules}
use Rattle.esto_mapping.specs.declared.catalogue.TheConstants.{MAX_PATTERNS, MAX_WEIGHT}
use Rattle.esto_docmodel.specs.declared.file.Shape.TheVariants.{Table as FromTable, Documents as FromDocuments, Keys as FromKeys}
use Rattle.esto_docmodel.specs.declared.file.Store.{Store}
use Rattle.esto_mapping.specs.declared.dataset.Dataset.{Dataset}
use Rattle.esto_status.specs.declared.fault.CatalogueKind.TheVariants.{BadColumns, BadPattern, WrongType, BadAccess, BadWeight, SameName, BadStore}
use Rattle.esto_catalog.specs.declared.fault.Place.{Place}
use Rattle.esto_status.specs.declared.fault.Section.TheVariants as section
use Rattle.esto_catalog.specs.declared.row.Keys.TheVariants as keys
use Rattle.esto_input_laws.proofs.LayoutReadingLemmas.{layout_reading}
use Rattle.esto_input_laws.proofs.QueryLemmas.{query_reading}
use Rattle.esto_input_laws.proofs.RuleLemmas.{constraint_reading}
use Rattle.esto_input_laws.proofs.CourseLemmas.{Ends, Any, ends_gives, ends_refuses, ends_demands, ends_accepts, ends_rejects, ends_then, ends_each}
use Rattle.esto_input_laws.proofs.LayoutLemmas.{is_layout}
use Rattle.esto_input_laws.proofs.RowLemmas.{keys_known, text_needed, demanded, distinct, are_columns, model_needed, unfit, layout_row_ends}
use Rattle.esto_term.proofs.DecisionLemmas.{at_most, same_bool}

-- ---- shapes

store_columns_end : (place : Place) (view : Query) (setting : Option Setting) → Ends Any (store_columns place view setting)
store_columns_end place view None = ends_gives Any (head_columns view) tt
store_columns_end place view (Some (Texts columns)) =
    demanded columns (decided_both (are_columns columns) (cases_eq (length columns) (length view.head))) (fault_at BadColumns place (codes "columns")) (λ e. cc)
store_columns_end place view (Some (Text text)) = ends_refuses Any (fault_at WrongType place (codes "columns")) (λ e. cc)
store_columns_end place view (Some (Integer number)) = ends_refuses Any (fault_at WrongType place (codes "columns")) (λ e. cc)
store_columns_end place view (Some Other) = ends_refuses Any (fault_at WrongType place (codes "columns")) (λ e. cc)

pattern_read : (place : Place) (view : Query) (text : List ℕ) → Ends Any (reads_pattern place view text)
pattern_read place view text = elim (layout_reading (map Given (head_columns view)) text) [
  | inl (pattern, is) ↦ ends_accepts Any (IsLayoutReading (map Given (head_columns view)) text) _ pattern is tt
  | inr (fault, is) ↦ ends_rejects Any _ (λ error. (fault : TextFault) × IsLayoutFault (map Given (head_columns view)) text fault
      × (error ≡ text_fault_at fault place (codes "pattern"))) (text_fault_at fault place (codes "pattern")) (λ e. cc) (fault, is, refl)
]

pattern_row_ends : (place : Place) (view : Query) (entry : List Field) → Ends Any (pattern_row place view entry)
pattern_row_ends place view entry =
    ends_then Any Any _ _ (text_needed place (codes "pattern") (setting_at (codes "pattern") entry)) (λ text goes any.
    ends_then Any Any _ _ (pattern_read place view text) (λ pattern goes any.
    demanded pattern (is_layout (length view.head) (entries_of pattern.entries)) (fault_at BadPattern place (codes "pattern")) (λ e. cc)))

shape_ends : (place : Place) (model : DataModel) (view : Query) (entry : List Field) → Ends Any (shape_row place model view entry)
shape_ends place Table view entry =
    ends_then Any Any _ _ (store_columns_end place view (setting_at (codes "columns") entry)) (λ columns goes any.
    ends_then _ Any _ _ (unfit (codes "layout") place entry) (λ unit goes any.
    ends_then _ Any _ _ (unfit (codes "pattern") place entry) (λ unit goes any.
    ends_gives Any (FromTable columns) tt)))
shape_ends place Documents view entry =
    ends_then _ Any _ _ (unfit (codes "columns") place entry) (λ unit goes any.
    ends_then Any Any _ _ (layout_row_ends place Documents entry) (λ layout goes any.
    ends_then Any Any _ _ (pattern_row_ends place view entry) (λ pattern goes any.
    ends_gives Any (FromDocuments layout pattern) tt)))
shape_ends place KeyFile view entry =
    ends_then _ Any _ _ (unfit (codes "columns") place entry) (λ unit goes any.
    ends_then _ Any _ _ (unfit (codes "layout") place entry) (λ unit goes any.
    ends_then _ Any _ _ (unfit (codes "pattern") place entry) (λ unit goes any.
    ends_gives Any FromKeys tt)))

-- ---- binding patterns and weights

written : (text : List ℕ) → Decided ((pattern : List Bool) × (text ≡ written_pattern pattern))
written [] = inl ([], refl)
written (letter ∷ text) = by (cases_eq letter (letter_of true)) (cases_eq letter (letter_of false)) (written text)
  where
    more : (input : Bool) → letter ≡ letter_of input → Decided ((pattern : List Bool) × (text ≡ written_pattern pattern))
        → Decided ((pattern : List Bool) × (letter ∷ text ≡ written_pattern pattern))
    more input is (inl (pattern, same)) = inl (input ∷ pattern, λ i. is i ∷ same i)
    more input is (inr none) = inr (λ (pattern, same). tail pattern same)
      where
        tail : (pattern : List Bool) → letter ∷ text ≡ written_pattern pattern → ⊥
        tail [] same = cc
        tail (first ∷ pattern) same = none (pattern, cc)

    by : Decided (letter ≡ letter_of true) → Decided (letter ≡ letter_of false) → Decided ((pattern : List Bool) × (text ≡ written_pattern pattern))
        → Decided ((pattern : List Bool) × (letter ∷ text ≡ written_pattern pattern))
    by (inl is) other rest = more true is rest
    by (inr no_input) (inl is) rest = more false is rest
    by (inr no_input) (inr no_output) rest = inr (λ (pattern, same). head pattern same)
      where
        head : (pattern : List Bool) → letter ∷ text ≡ written_pattern pattern → ⊥
        head [] same = cc
        head (true ∷ pattern) same = no_input cc
        head (false ∷ pattern) same = no_output cc

-- each of the patterns has so many columns
AreWide : ℕ → List (List Bool) → Type 0
AreWide columns patterns = (pattern : List Bool) → Contains patterns pattern → length pattern ≡ columns

wide_more : (columns : ℕ) (first : List Bool) (patterns : List (List Bool)) → length first ≡ columns → AreWide columns patterns
    → AreWide columns (first ∷ patterns)
unfolding AreWide
wide_more columns first patterns here later pattern inside = elim (Contains-cases first patterns pattern inside) [
  | inl same ↦ ap length (sym same) ∙ here
  | inr more ↦ later pattern more
]

patterns_of : (columns : ℕ) (texts : List (List ℕ))
    → Decided ((patterns : List (List Bool)) × (texts ≡ map written_pattern patterns) × AreWide columns patterns)
unfolding AreWide
patterns_of columns [] = inl ([], refl, λ pattern inside. absurd (Contains-nil pattern inside))
patterns_of columns (text ∷ texts) = by (written text) (patterns_of columns texts)
  where
    by : Decided ((pattern : List Bool) × (text ≡ written_pattern pattern))
        → Decided ((patterns : List (List Bool)) × (texts ≡ map written_pattern patterns) × AreWide columns patterns)
        → Decided ((patterns : List (List Bool)) × (text ∷ texts ≡ map written_pattern patterns) × AreWide columns patterns)
    by (inl (pattern, is)) (inl (patterns, are, wide)) = elim (cases_eq (length pattern) columns) [
      | inl here ↦ inl (pattern ∷ patterns, λ i. is i ∷ are i, wide_more columns pattern patterns here wide)
      | inr apart ↦ inr (λ (others, same, all). narrow apart others same all)
    ]
      where
        narrow : (length pattern ≡ columns → ⊥) → (others : List (List Bool)) → text ∷ texts ≡ map written_pattern others → AreWide columns others → ⊥
        narrow apart [] same all = cc
        narrow apart (other ∷ others) same all =
            let one : written_pattern pattern ≡ written_pattern other = let e : text ≡ written_pattern other = cc in sym is ∙ e in
            apart (sym (long pattern) ∙ ap length one ∙ long other ∙ all other (Contains-head other others))
          where
            long : (bits : List Bool) → length (written_pattern bits) ≡ length bits
            long [] = refl
            long (bit ∷ bits) = ap suc (long bits)
    by (inr none) rest = inr (λ (others, same, all). first others same)
      where
        first : (others : List (List Bool)) → text ∷ texts ≡ map written_pattern others → ⊥
        first [] same = cc
        first (other ∷ others) same = none (other, cc)
    by one (inr none) = inr (λ (others, same, all). rest others same all)
      where
        rest : (others : List (List Bool)) → text ∷ texts ≡ map written_pattern others → AreWide columns others → ⊥
        rest [] same all = cc
        rest (other ∷ others) same all = none (others, cc, λ pattern inside. all pattern (Contains-rest other others pattern inside))

patterns_decided : (columns : ℕ) (texts : List (List ℕ)) → Decided ((patterns : List (List Bool)) × ArePatterns columns texts patterns)
unfolding AreWide
patterns_decided columns texts = decided_as (
  λ ((patterns, are, wide), (has, (few, apart))). (patterns, record { some = has; few = few; distinct = apart; written = are; wide = wide }),
  λ (patterns, are). ((patterns, are.written, are.wide), (are.some, (are.few, are.distinct))),
)
    (decided_both (patterns_of columns texts)
    (decided_both (at_most 1 (length texts)) (decided_both (at_most (length texts) MAX_PATTERNS) (distinct texts))))

patterns_read : (place : Place) (columns : ℕ) (texts : List (List ℕ)) → Ends Any (reads_patterns place columns texts)
patterns_read place columns texts = elim (patterns_decided columns texts) [
  | inl (patterns, are) ↦ ends_accepts Any (ArePatterns columns texts) _ patterns are tt
  | inr none ↦ ends_rejects Any _ (λ error. ((patterns : List (List Bool)) → ¬ ArePatterns columns texts patterns)
      × (error ≡ fault_at BadAccess place (codes "access"))) (fault_at BadAccess place (codes "access")) (λ e. cc) (λ patterns are. none (patterns, are), refl)
]

access_ends : (place : Place) (model : DataModel) (columns : ℕ) (setting : Option Setting) → Ends Any (allows_access place model columns setting)
access_ends place model columns None = ends_gives Any (usual_pattern model columns ∷ []) tt
access_ends place model columns (Some (Text text)) = patterns_read place columns (text ∷ [])
access_ends place model columns (Some (Texts texts)) = patterns_read place columns texts
access_ends place model columns (Some (Integer number)) = ends_refuses Any (fault_at WrongType place (codes "access")) (λ e. cc)
access_ends place model columns (Some Other) = ends_refuses Any (fault_at WrongType place (codes "access")) (λ e. cc)

weight_decided : (number : ℤ) → Decided ((weight : ℕ) × IsWeight number weight)
weight_decided (pos n) = decided_as
    (λ le. (n, (refl, le)), λ (weight, (same, le)). let e : n ≡ weight = cc in subst (λ (w : ℕ). w ≤ MAX_WEIGHT) (sym e) le)
    (at_most n MAX_WEIGHT)
weight_decided (negsuc n) = inr (λ (weight, (same, le)). cc)

weight_read : (place : Place) (number : ℤ) → Ends Any (reads_weight place number)
weight_read place number = elim (weight_decided number) [
  | inl (weight, is) ↦ ends_accepts Any (IsWeight number) _ weight is tt
  | inr none ↦ ends_rejects Any _ (λ error. ((weight : ℕ) → ¬ IsWeight number weight) × (error ≡ fault_at BadWeight place (codes "weight")))
      (fault_at BadWeight place (codes "weight")) (λ e. cc) (λ weight is. none (weight, is), refl)
]

weight_ends : (place : Place) (setting : Option Setting) → Ends Any (allows_weight place setting)
weight_ends place None = ends_gives Any 1 tt
weight_ends place (Some (Integer number)) = weight_read place number
weight_ends place (Some (Text text)) = ends_refuses Any (fault_at WrongType place (codes "weight")) (λ e. cc)
weight_ends place (Some (Texts texts)) = ends_refuses Any (fault_at WrongType place (codes "weight")) (λ e. cc)
weight_ends place (Some Other) = ends_refuses Any (fault_at WrongType place (codes "weight")) (λ e. cc)

-- ---- what is read from texts is over the schema

module _ (words : List Word) (schema bytes : List ℕ) (vocabulary : IsVocabulary schema words) where
  view_sound : (view : NamedQuery) → IsReading View words schema bytes view → IsSoundView schema view
  view_sound view (tree, meaning) =
      let (tokens, are, is) = meaning.text in
      let stands = tree_stands bytes tokens tree are.1 is in
      let parts = query_parts tree (limited tokens) is in (
        over words schema bytes are.0 tree view.query.head view.query.body view.query.names parts stands meaning.said.read vocabulary.relations,
        head_is bytes tree.variables view.query.head meaning.said.read.between stands.1 meaning.said.read.head_terms View meaning.said.fit.0,
      )

  rule_sound : (version : Version) (rule : Constraint) → IsConstraintReading version words schema bytes rule → IsRuleOver schema (rule_of rule)
  rule_sound version rule (tree, (tokens, are, is), said) =
      by tree.head refl rule said
    where
      text : IsConstraintText version bytes tree
      text = (tokens, are, is)

      stands : ConstraintStandsAt bytes tree
      stands = constraint_stands bytes (IsFalse version bytes) tokens tree are.1 is

      by : (head : HeadTree) → tree.head ≡ head → (rule : Constraint) → IsRuleOf words schema bytes tree.body head rule → IsRuleOver schema (rule_of rule)
      by (Items items) same (Tuple rule) read =
          (tuple_parts version words schema bytes tree text stands vocabulary.relations items same rule.body rule.head rule.names read).over
      by (Equality left right) same (Equal rule) (read, one, other) =
          (equality_parts version words schema bytes tree text stands vocabulary.relations left right same rule.body rule.left rule.right rule.names read
          (one, other)).over
      by Nothing same (Never rule) read =
          (denial_parts version words schema bytes tree text stands vocabulary.relations rule.body rule.names read).over
      by (Items items) same (Equal rule) read = absurd read
      by (Items items) same (Never rule) read = absurd read
      by (Equality left right) same (Tuple rule) read = absurd read
      by (Equality left right) same (Never rule) read = absurd read
      by Nothing same (Tuple rule) read = absurd read
      by Nothing same (Equal rule) read = absurd read

-- ---- fragments and constraints

module _ (datasets : List Dataset) (are : AreDatasets datasets) where
  abbrev arities : List ℕ
  arities = arities_of (schema_of datasets)

  vocabulary : IsVocabulary (arities_of (schema_of datasets)) (words_of datasets)
  vocabulary = set_words datasets (datasets_set datasets are)

  view_read : (place : Place) (text : List ℕ) → Ends (IsSoundView arities) (reads_view place datasets text)
  view_read place text = elim (query_reading (words_of datasets) arities vocabulary text View) [
    | inl (view, is) ↦ ends_accepts (IsSoundView arities) (λ view. IsReading View (words_of datasets) arities text view) _ view is
        (view_sound (words_of datasets) arities text vocabulary view is)
    | inr (fault, is) ↦ ends_rejects (IsSoundView arities) _ (λ error. (fault : TextFault) × IsFirstFault View (words_of datasets) arities text fault
        × (error ≡ text_fault_at fault place (codes "view"))) (text_fault_at fault place (codes "view")) (λ e. cc) (fault, is, refl)
  ]

  view_ends : (place : Place) (earlier : List FragmentDef) (entry : List Field) → Ends (IsSoundView arities) (view_row place datasets earlier entry)
  view_ends place earlier entry =
      ends_then Any (IsSoundView arities) _ _ (text_needed place (codes "view") (setting_at (codes "view") entry)) (λ text goes any.
      ends_then (IsSoundView arities) (IsSoundView arities) _ _ (view_read place text) (λ view goes sound.
      ends_then _ (IsSoundView arities) _ _ (ends_demands (same_bool (has_dataset view.name datasets || has_fragment view.name earlier) false)
      (fault_at SameName place (codes "view")) (λ e. cc)) (λ unit goes any.
      ends_gives (IsSoundView arities) view sound)))

  after_view_ends : (place : Place) (view : Query) (entry : List Field) → Ends Any (rows_after_view place view entry)
  after_view_ends place view entry =
      ends_then Any Any _ _ (model_needed BadStore place (codes "store") entry) (λ model goes any.
      ends_then Any Any _ _ (text_needed place (codes "file") (setting_at (codes "file") entry)) (λ file goes any.
      ends_then Any Any _ _ (ends_then Any Any _ _ (shape_ends place model view entry) (λ shape goes any.
      ends_then Any Any _ _ (ends_then Any Any _ _ (access_ends place model (length view.head) (setting_at (codes "access") entry)) (λ access goes any.
      ends_then Any Any _ _ (weight_ends place (setting_at (codes "weight") entry)) (λ weight goes any.
      ends_gives Any (access, weight) tt))) (λ last goes any.
      ends_gives Any (shape, last.0, last.1) tt))) (λ rest goes any.
      ends_gives Any (record { shape = rest.0; file = file }, rest.1, rest.2) tt)))

  fragment_ends : (place : Place) (earlier : List FragmentDef) (entry : List Field) → Ends (IsSoundStored arities) (reads_fragment place datasets earlier entry)
  fragment_ends place earlier entry =
      ends_then Any (IsSoundStored arities) _ _ (keys_known place keys.Fragment entry) (λ unit goes any.
      ends_then (IsSoundView arities) (IsSoundStored arities) _ _ (view_ends place earlier entry) (λ view view_goes sound.
      ends_then Any (IsSoundStored arities) _ _ (after_view_ends place view.query entry) (λ rest goes any.
      ends_gives (IsSoundStored arities) (stored_fragment view rest.0 rest.1 rest.2) (stored view view_goes sound rest goes))))
    where
      stored : (view : NamedQuery) → (view_row place datasets earlier entry).goes view → IsSoundView arities view → (rest : Store × List (List Bool) × ℕ)
          → (rows_after_view place view.query entry).goes rest → IsSoundStored arities (stored_fragment view rest.0 rest.1 rest.2)
      stored view view_goes sound (store, access, weight) goes =
          let (text, reading) = view_reading place datasets earlier entry view view_goes in
          let (texts, names) = views_named (words_of datasets) arities text view reading in
          let (shape, patterns, light) = rows_fit place view.query entry store access weight (head_fit view.query texts names) goes in
          stored_sound arities view store access weight (stored_fragment view store access weight) refl sound shape patterns light

  pub fragments_end : (entries : List (List Field)) → Ends (AreSoundFragments arities) (reads_fragments datasets entries)
  fragments_end entries = ends_each (AreSoundFragments arities) (λ number earlier entry. adds_fragment datasets number earlier entry)
      (λ number earlier entry sound.
      ends_then (IsSoundStored arities) (AreSoundFragments arities) _ _
      (fragment_ends (record { section = section.Fragment; number = number }) earlier.definitions entry) (λ fragment goes one.
      ends_gives (AreSoundFragments arities) (with_fragment earlier fragment)
      (fragments_grown arities earlier (with_fragment earlier fragment) fragment refl sound one))) 1 no_fragments entries (no_fragments_sound arities)

  rule_read : (version : Version) (place : Place) (text : List ℕ) → Ends (λ rule. IsRuleOver arities (rule_of rule)) (reads_rule version place datasets text)
  rule_read version place text = elim (constraint_reading version (words_of datasets) arities vocabulary text) [
    | inl (rule, is) ↦ ends_accepts (λ rule. IsRuleOver arities (rule_of rule)) (λ rule. IsConstraintReading version (words_of datasets) arities text rule) _
        rule is
        (rule_sound (words_of datasets) arities text vocabulary version rule is)
    | inr (fault, is) ↦ ends_rejects (λ rule. IsRuleOver arities (rule_of rule)) _ (λ error. (fault : TextFault)
        × IsConstraintFault version (words_of datasets) arities text fault
        × (error ≡ text_fault_at fault place (codes "rule"))) (text_fault_at fault place (codes "rule")) (λ e. cc) (fault, is, refl)
  ]

  rule_ends : (version : Version) (place : Place) (entry : List Field)
      → Ends (λ rule. IsRuleOver arities (rule_of rule)) (reads_constraint version place datasets entry)
  rule_ends version place entry =
      ends_then Any _ _ _ (keys_known place keys.Constraint entry) (λ unit goes any.
      ends_then Any _ _ _ (text_needed place (codes "rule") (setting_at (codes "rule") entry)) (λ text goes any.
      rule_read version place text))

  pub rules_end : (version : Version) (entries : List (List Field)) → Ends (AreSoundRules arities) (reads_constraints version datasets entries)
  rules_end version entries = ends_each (AreSoundRules arities) (λ number earlier entry. adds_constraint version datasets number earlier entry)
      (λ number earlier entry sound.
      ends_then (λ rule. IsRuleOver arities (rule_of rule)) (AreSoundRules arities) _ _
      (rule_ends version (record { section = section.Constraint; number = number }) entry) (λ rule goes over.
      ends_gives (AreSoundRules arities) (earlier ++ rule ∷ []) (rules_more arities earlier rule sound over))) 1 [] entries (no_rules arities)
