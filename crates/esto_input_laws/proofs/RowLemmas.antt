-- The rows of the catalogue's table, up to those of its texts, go on or stop.
use Rattle.std.proofs.Common.{◌≡◌, ◌≢◌, ℕ, inl, inr, Bool, true, false, List, [], ◌∷◌, ◌++◌, length, Option, Some, None, codes}
use Rattle.std.proofs.Common.{refl, sym, subst, append_assoc, arith}
use Rattle.std.specs.Prelude.{AllPairs, Contains, nat_eq}
use Rattle.std.specs.Ordering.{is_lt, nat_cmp}
use Rattle.std.specs.Cmp.Lexicographic.{slice_cmp}
use Rattle.std.specs.List.{starts_with}
use Rattle.std.proofs.lemmas.List.{append-nil}
use Rattle.esto_course.specs.Course.{and_then, gives, demands}
use Rattle.esto_docmodel.specs.declared.file.Layout.{Layout}
use Rattle.esto_docmodel.specs.declared.file.Layout.TheVariants.{Array, Lines}
use Rattle.esto_query.specs.declared.schema.TheConstants.{MAX_COLUMNS}
use Rattle.esto_docmodel.specs.declared.words.DataModel.{DataModel}
use Rattle.esto_docmodel.specs.declared.words.DataModel.TheVariants.{Table, Documents, Keys as KeyFile}
use Rattle.esto_settings.specs.Settings.{has_key, setting_at}
use Rattle.esto_settings.specs.declared.setting.Field.{Field}
use Rattle.esto_settings.specs.declared.setting.Setting.{Setting}
use Rattle.esto_settings.specs.declared.setting.Setting.TheVariants.{Text, Integer, Texts, Other}
use Rattle.esto_term.proofs.ChoiceLemmas.{Decided, decided_as, decided_both, decided_not, pairs_cons, pairs_head, pairs_tail}
use Rattle.esto_catalog.proofs.LeastLemmas.{lesser_new, lesser_old, IsLeastOf, none_unknown, known_next, unknown_next}
use Rattle.esto_catalog.specs.Datasets.{has_dataset, name_row, needs_columns, columns_row}
use Rattle.esto_mapping.specs.Datasets.{is_name, AreColumns, schema_of}
use Rattle.esto_docmodel.specs.Stores.{begins_plain}
use Rattle.esto_catalog.specs.Datasets.{layout_and_file_rows, rows_after_name, dataset_of, reads_dataset, adds_dataset, reads_datasets}
use Rattle.esto_catalog.specs.Models.{model_word, layout_word, reads_model, needs_model, reads_layout, allows_layout, unfit_row, layout_row}
use Rattle.esto_catalog.specs.Rows.{fault_at, is_known, IsUnknown, IsLeastUnknown, knows_keys, needs_text, allows_text, needs_texts, IsLesserOf}
use Rattle.esto_ports.specs.declared.mark.TheConstants.{MARK}
use Rattle.esto_mapping.specs.declared.dataset.Dataset.{Dataset}
use Rattle.esto_catalog.specs.declared.fault.CatalogueError.{CatalogueError}
use Rattle.esto_catalog.specs.declared.fault.CatalogueError.TheVariants.{OutOfMemory}
use Rattle.esto_status.specs.declared.fault.CatalogueKind.{CatalogueKind}
use Rattle.esto_status.specs.declared.fault.CatalogueKind.TheVariants.{UnknownKey, WrongType, Missing, BadName, SameName, BadModel, BadColumns, BadLayout}
use Rattle.esto_status.specs.declared.fault.CatalogueKind.TheVariants.{Unfit}
use Rattle.esto_catalog.specs.declared.fault.Place.{Place}
use Rattle.esto_status.specs.declared.fault.Section.TheVariants as section
use Rattle.esto_catalog.specs.declared.row.Keys.{Keys}
use Rattle.esto_catalog.specs.declared.row.Keys.TheVariants as keys
use Rattle.esto_input_laws.proofs.CourseLemmas.{Ends, Any, ends_gives, ends_refuses, ends_demands, ends_accepts, ends_rejects, ends_then, ends_each}
use Rattle.esto_term.proofs.DecisionLemmas.{at_most, same_bytes, same_bool, contains}

-- ---- keys

more_known : (known : Keys) (seen rest : List Field) (least : Option (List ℕ)) → IsLeastOf known seen least
    → (found : Option (List ℕ)) × IsLeastOf known (seen ++ rest) found
more_known known seen [] least is = (least, subst (λ (l : List Field). IsLeastOf known l least) (sym (append-nil seen)) is)
more_known known seen (field ∷ rest) least is =
    let (next, there) = one least is (is_known known field.key) refl in
    let (found, all) = more_known known (seen ++ field ∷ []) rest next there in
    (found, subst (λ (l : List Field). IsLeastOf known l found) (append_assoc seen (field ∷ []) rest) all)
  where
    lesser : (least : Option (List ℕ)) → (key : List ℕ) × IsLesserOf least field.key key
    lesser None = (field.key, refl)
    lesser (Some other) = go (is_lt (slice_cmp nat_cmp field.key other)) refl
      where
        go : (less : Bool) → is_lt (slice_cmp nat_cmp field.key other) ≡ less → (key : List ℕ) × IsLesserOf (Some other) field.key key
        go true less = (field.key, lesser_new field.key other less)
        go false more = (other, lesser_old field.key other more)

    one : (least : Option (List ℕ)) → IsLeastOf known seen least → (told : Bool) → is_known known field.key ≡ told
        → (next : Option (List ℕ)) × IsLeastOf known (seen ++ field ∷ []) next
    one least is true told = (least, known_next known seen field least told is)
    one least is false told = let (key, lower) = lesser least in (Some key, unknown_next known seen field least key told lower is)

pub keys_known : (place : Place) (known : Keys) (entry : List Field) → Ends Any (knows_keys place known entry)
keys_known place known entry = let (found, is) = more_known known [] entry None (none_unknown known) in by found is
  where
    by : (found : Option (List ℕ)) → IsLeastOf known entry found → Ends Any (knows_keys place known entry)
    by None none = ends_accepts Any (λ _. (key : List ℕ) → ¬ IsUnknown known entry key) _ tt none tt
    by (Some key) least = ends_rejects Any _ (λ error. (key : List ℕ) × IsLeastUnknown known entry key × (error ≡ fault_at UnknownKey place key))
        (fault_at UnknownKey place key) (λ e. cc) (key, least, refl)

-- ---- settings

pub text_needed : (place : Place) (key : List ℕ) (setting : Option Setting) → Ends Any (needs_text place key setting)
text_needed place key None = ends_refuses Any (fault_at Missing place key) (λ e. cc)
text_needed place key (Some (Text text)) = ends_gives Any text tt
text_needed place key (Some (Integer number)) = ends_refuses Any (fault_at WrongType place key) (λ e. cc)
text_needed place key (Some (Texts texts)) = ends_refuses Any (fault_at WrongType place key) (λ e. cc)
text_needed place key (Some Other) = ends_refuses Any (fault_at WrongType place key) (λ e. cc)

text_allowed : (place : Place) (key : List ℕ) (setting : Option Setting) → Ends Any (allows_text place key setting)
text_allowed place key None = ends_gives Any None tt
text_allowed place key (Some (Text text)) = ends_gives Any (Some text) tt
text_allowed place key (Some (Integer number)) = ends_refuses Any (fault_at WrongType place key) (λ e. cc)
text_allowed place key (Some (Texts texts)) = ends_refuses Any (fault_at WrongType place key) (λ e. cc)
text_allowed place key (Some Other) = ends_refuses Any (fault_at WrongType place key) (λ e. cc)

texts_needed : (place : Place) (key : List ℕ) (setting : Option Setting) → Ends Any (needs_texts place key setting)
texts_needed place key None = ends_refuses Any (fault_at Missing place key) (λ e. cc)
texts_needed place key (Some (Texts texts)) = ends_gives Any texts tt
texts_needed place key (Some (Integer number)) = ends_refuses Any (fault_at WrongType place key) (λ e. cc)
texts_needed place key (Some (Text text)) = ends_refuses Any (fault_at WrongType place key) (λ e. cc)
texts_needed place key (Some Other) = ends_refuses Any (fault_at WrongType place key) (λ e. cc)

-- a condition that is demanded of a value, which is then given
pub demanded : {A C : Type 0} (value : A) → Decided C → (error : CatalogueError) → error ≢ OutOfMemory
    → Ends Any (and_then (demands C error) (λ _. gives value))
demanded {C = C} value decided error fault =
    ends_then (λ _. C) Any (demands C error) (λ _. gives value) (ends_demands decided error fault) (λ unit goes holds. ends_gives Any value tt)

-- ---- columns

pub distinct : (texts : List (List ℕ)) → Decided (AllPairs ◌≢◌ texts)
distinct [] = inl (λ i j d before below. absurd (omega (arith, below)))
distinct (text ∷ texts) = decided_as (
  λ (apart, rest). pairs_cons ◌≢◌ text texts (λ other inside same. apart (subst (Contains texts) (sym same) inside)) rest,
  λ pairs. (λ inside. pairs_head ◌≢◌ text texts pairs text inside refl, pairs_tail ◌≢◌ text texts pairs),
)
    (decided_both (decided_not (contains same_bytes texts text)) (distinct texts))

plain : (columns : List (List ℕ)) → Decided (begins_plain columns)
plain [] = inl tt
plain (first ∷ rest) = same_bool (starts_with nat_eq first MARK) false

pub are_columns : (columns : List (List ℕ)) → Decided (AreColumns columns)
are_columns columns = decided_as (
  λ (has, (few, (apart, unmarked))). record { some = has; few = few; distinct = apart; plain = unmarked },
  λ are. (are.some, (are.few, (are.distinct, are.plain))),
)
    (decided_both (at_most 1 (length columns)) (decided_both (at_most (length columns) MAX_COLUMNS) (decided_both (distinct columns) (plain columns))))

-- ---- models and layouts

model_read : (kind : CatalogueKind) (place : Place) (key text : List ℕ) → Ends Any (reads_model kind place key text)
model_read kind place key text = by (same_bytes text (model_word Table)) (same_bytes text (model_word Documents)) (same_bytes text (model_word KeyFile))
  where
    accepted : (model : DataModel) → text ≡ model_word model → Ends Any (reads_model kind place key text)
    accepted model is = ends_accepts Any (λ model. text ≡ model_word model) _ model is tt

    by : Decided (text ≡ model_word Table) → Decided (text ≡ model_word Documents) → Decided (text ≡ model_word KeyFile)
        → Ends Any (reads_model kind place key text)
    by (inl is) documents files = accepted Table is
    by (inr no_table) (inl is) files = accepted Documents is
    by (inr no_table) (inr no_documents) (inl is) = accepted KeyFile is
    by (inr no_table) (inr no_documents) (inr no_keys) = ends_rejects Any _
        (λ error. ((model : DataModel) → text ≢ model_word model) × (error ≡ fault_at kind place key)) (fault_at kind place key) (λ e. cc) (none, refl)
      where
        none : (model : DataModel) → text ≢ model_word model
        none Table = no_table
        none Documents = no_documents
        none KeyFile = no_keys

pub model_needed : (kind : CatalogueKind) (place : Place) (key : List ℕ) (entry : List Field) → Ends Any (needs_model kind place key entry)
model_needed kind place key entry =
    ends_then Any Any (needs_text place key (setting_at key entry)) (λ text. reads_model kind place key text) (text_needed place key (setting_at key entry))
    (λ text goes any. model_read kind place key text)

layout_read : (place : Place) (text : List ℕ) → Ends Any (reads_layout place text)
layout_read place text = by (same_bytes text (layout_word Array)) (same_bytes text (layout_word Lines))
  where
    by : Decided (text ≡ layout_word Array) → Decided (text ≡ layout_word Lines) → Ends Any (reads_layout place text)
    by (inl is) lines = ends_accepts Any (λ layout. text ≡ layout_word layout) _ Array is tt
    by (inr no_array) (inl is) = ends_accepts Any (λ layout. text ≡ layout_word layout) _ Lines is tt
    by (inr no_array) (inr no_lines) = ends_rejects Any _
        (λ error. ((layout : Layout) → text ≢ layout_word layout) × (error ≡ fault_at BadLayout place (codes "layout")))
        (fault_at BadLayout place (codes "layout")) (λ e. cc) (none, refl)
      where
        none : (layout : Layout) → text ≢ layout_word layout
        none Array = no_array
        none Lines = no_lines

layout_allowed : (place : Place) (setting : Option Setting) → Ends Any (allows_layout place setting)
layout_allowed place None = ends_gives Any Lines tt
layout_allowed place (Some (Text text)) = layout_read place text
layout_allowed place (Some (Integer number)) = ends_refuses Any (fault_at WrongType place (codes "layout")) (λ e. cc)
layout_allowed place (Some (Texts texts)) = ends_refuses Any (fault_at WrongType place (codes "layout")) (λ e. cc)
layout_allowed place (Some Other) = ends_refuses Any (fault_at WrongType place (codes "layout")) (λ e. cc)

pub unfit : (key : List ℕ) (place : Place) (entry : List Field) → Ends (λ _. has_key key entry ≡ false) (unfit_row key place entry)
unfit key place entry = ends_demands (same_bool (has_key key entry) false) (fault_at Unfit place key) (λ e. cc)

-- a key that is for others is absent, and a value is given
without : {A : Type 0} (key : List ℕ) (place : Place) (entry : List Field) (value : A) → Ends Any (and_then (unfit_row key place entry) (λ _. gives value))
without key place entry value = demanded value (same_bool (has_key key entry) false) (fault_at Unfit place key) (λ e. cc)

pub layout_row_ends : (place : Place) (model : DataModel) (entry : List Field) → Ends Any (layout_row place model entry)
layout_row_ends place Table entry = without (codes "layout") place entry Lines
layout_row_ends place Documents entry = layout_allowed place (setting_at (codes "layout") entry)
layout_row_ends place KeyFile entry = without (codes "layout") place entry Lines

-- ---- datasets

name_row_ends : (place : Place) (earlier : List Dataset) (entry : List Field) → Ends Any (name_row place earlier entry)
name_row_ends place earlier entry =
    ends_then Any Any _ _ (text_needed place (codes "name") (setting_at (codes "name") entry)) (λ name goes any.
    ends_then (λ _. is_name name ≡ true) Any _ _ (ends_demands (same_bool (is_name name) true) (fault_at BadName place (codes "name")) (λ e. cc))
    (λ unit named is.
    demanded name (same_bool (has_dataset name earlier) false) (fault_at SameName place (codes "name")) (λ e. cc)))

columns_needed : (place : Place) (entry : List Field) → Ends Any (needs_columns place entry)
columns_needed place entry =
    ends_then Any Any _ _ (texts_needed place (codes "columns") (setting_at (codes "columns") entry)) (λ columns goes any.
    demanded columns (are_columns columns) (fault_at BadColumns place (codes "columns")) (λ e. cc))

columns_row_ends : (place : Place) (model : DataModel) (entry : List Field) → Ends Any (columns_row place model entry)
columns_row_ends place Table entry = columns_needed place entry
columns_row_ends place Documents entry = without (codes "columns") place entry []
columns_row_ends place KeyFile entry = without (codes "columns") place entry []

layout_and_file_end : (place : Place) (model : DataModel) (entry : List Field) → Ends Any (layout_and_file_rows place model entry)
layout_and_file_end place model entry =
    ends_then Any Any _ _ (layout_row_ends place model entry) (λ layout goes any.
    ends_then Any Any _ _ (text_allowed place (codes "file") (setting_at (codes "file") entry)) (λ file goes any.
    ends_gives Any (layout, file) tt))

after_name_end : (place : Place) (entry : List Field) → Ends Any (rows_after_name place entry)
after_name_end place entry =
    ends_then Any Any _ _ (model_needed BadModel place (codes "model") entry) (λ model goes any.
    ends_then Any Any _ _ (columns_row_ends place model entry) (λ columns goes any.
    ends_then Any Any _ _ (layout_and_file_end place model entry) (λ last goes any.
    ends_gives Any (model, columns, last.0, last.1) tt)))

dataset_ends : (place : Place) (earlier : List Dataset) (entry : List Field) → Ends Any (reads_dataset place earlier entry)
dataset_ends place earlier entry =
    ends_then Any Any _ _ (keys_known place keys.Dataset entry) (λ unit goes any.
    ends_then Any Any _ _ (name_row_ends place earlier entry) (λ name goes any.
    ends_then Any Any _ _ (after_name_end place entry) (λ rest goes any.
    ends_gives Any (dataset_of name (length (schema_of earlier)) rest) tt)))

pub datasets_end : (entries : List (List Field)) → Ends Any (reads_datasets entries)
datasets_end entries = ends_each Any adds_dataset (λ number earlier entry any.
    ends_then Any Any _ _ (dataset_ends (record { section = section.Dataset; number = number }) earlier entry) (λ dataset goes any.
    ends_gives Any (earlier ++ dataset ∷ []) tt)) 1 [] entries tt
