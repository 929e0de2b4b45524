-- What turns of the loops over TOML's values give.
use Rattle.std.proofs.Common.{◌≡◌, ◌<◌, ◌+◌, ℕ, ℤ, List, [], ◌∷◌, ◌++◌, Option, Some, None, Bor, false, option_map, String, Global, nat_cmp, length, drop}
use Rattle.std.proofs.Common.{get_or, string_bytes, refl, sym, ap, ◌∙◌, append_assoc}
use Rattle.std.specs.BTreeMap.{is_at}
use Rattle.std.specs.Cmp.Lexicographic.{slice_cmp}
use Rattle.std.specs.Map.{lookup}
use Rattle.toml.proofs.Views.{Entry as Pair, items_view-drop, table_get}
use Rattle.toml.specs.Data.{Data, Items, item, string, integer, float, boolean, datetime, array, table, Members, get_member, as_str, as_integer, as_bool}
use Rattle.toml.specs.Data.{as_array, as_table}
use Rattle.toml.specs.View.{view, items_view, members_view}
use Rattle.toml.specs.declared.value.Value.{Value}
use Rattle.esto_term.proofs.ListLemmas.{after}
use Rattle.esto_settings.specs.Settings.{texts_of, array_setting, setting_of, entry_of, switch_of, entries_of, section_of}
use Rattle.esto_settings.specs.declared.setting.Field.{Field}
use Rattle.esto_settings.specs.declared.setting.Setting.TheVariants.{Text, Integer, Other}

pub after_none : {A : Type 0} (left : Option (List A)) → left ≡ after [] left
after_none None = refl
after_none (Some left) = refl

after_more : {A : Type 0} (done : List A) (more : A) (left : Option (List A))
    → after done (option_map (λ rest. more ∷ rest) left) ≡ after (done ++ more ∷ []) left
after_more done more None = refl
after_more done more (Some left) = ap Some (sym (append_assoc done (more ∷ []) left))

pub after_all : {A : Type 0} (done : List A) → after done (Some []) ≡ Some (done ++ [])
after_all done = refl

texts_step : (datum : Data) (items : Items) (text : List ℕ) → Some text ≡ as_str datum
    → texts_of (item datum items) ≡ option_map (λ (texts : List (List ℕ)). text ∷ texts) (texts_of items)
texts_step (string other) items text is = let same : text ≡ other = cc in ap
    (λ (first : List ℕ). option_map (λ (texts : List (List ℕ)). first ∷ texts) (texts_of items)) (sym same)
texts_step (integer n) items text is = cc
texts_step (float n) items text is = cc
texts_step (boolean n) items text is = cc
texts_step (datetime n) items text is = cc
texts_step (array n) items text is = cc
texts_step (table n) items text is = cc

texts_stop : (datum : Data) (items : Items) → None ≡ as_str datum → texts_of (item datum items) ≡ None
texts_stop (string other) items is = cc
texts_stop (integer n) items is = refl
texts_stop (float n) items is = refl
texts_stop (boolean n) items is = refl
texts_stop (datetime n) items is = refl
texts_stop (array n) items is = refl
texts_stop (table n) items is = refl

entries_step : (datum : Data) (items : Items) (pairs : Members) → Some pairs ≡ as_table datum
    → entries_of (item datum items) ≡ option_map (λ (entries : List (List Field)). entry_of pairs ∷ entries) (entries_of items)
entries_step (string n) items pairs is = cc
entries_step (integer n) items pairs is = cc
entries_step (float n) items pairs is = cc
entries_step (boolean n) items pairs is = cc
entries_step (datetime n) items pairs is = cc
entries_step (array n) items pairs is = cc
entries_step (table other) items pairs is =
    let same : pairs ≡ other = cc in ap (λ (first : Members). option_map (λ (entries : List (List Field)). entry_of first ∷ entries) (entries_of items))
    (sym same)

entries_stop : (datum : Data) (items : Items) → None ≡ as_table datum → entries_of (item datum items) ≡ None
entries_stop (string n) items is = refl
entries_stop (integer n) items is = refl
entries_stop (float n) items is = refl
entries_stop (boolean n) items is = refl
entries_stop (datetime n) items is = refl
entries_stop (array n) items is = refl
entries_stop (table other) items is = cc

-- a turn of the loop over the items of an array
module _ (values : List Value) (place : ℕ) (value : Value) (below : place < length values) (is : value ≡ get_or values place value) where
  first_left : items_view (drop place values) ≡ item (view value) (items_view (drop (place + 1) values))
  first_left = items_view-drop values place value below ∙ ap (λ (first : Value). item (view first) (items_view (drop (place + 1) values))) (sym is)

  module _ (all : Option (List (List ℕ))) (texts : List (List ℕ)) (left : all ≡ after texts (texts_of (items_view (drop place values)))) where
    pub texts_next : (text : List ℕ) → Some text ≡ as_str (view value) → all ≡ after (texts ++ text ∷ []) (texts_of (items_view (drop (place + 1) values)))
    texts_next text found =
        left ∙ ap (λ (items : Items). after texts (texts_of items)) first_left
        ∙ ap (after texts) (texts_step (view value) (items_view (drop (place + 1) values)) text found)
        ∙ after_more texts text (texts_of (items_view (drop (place + 1) values)))

    pub texts_fail : None ≡ as_str (view value) → None ≡ all
    texts_fail none =
        sym (left ∙ ap (λ (items : Items). after texts (texts_of items)) first_left
        ∙ ap (after texts) (texts_stop (view value) (items_view (drop (place + 1) values)) none))

  module _ (all : Option (List (List Field))) (entries : List (List Field)) (left : all ≡ after entries (entries_of (items_view (drop place values)))) where
    pub entries_next : (pairs : Members) → Some pairs ≡ as_table (view value)
        → all ≡ after (entries ++ entry_of pairs ∷ []) (entries_of (items_view (drop (place + 1) values)))
    entries_next pairs found =
        left ∙ ap (λ (items : Items). after entries (entries_of items)) first_left
        ∙ ap (after entries) (entries_step (view value) (items_view (drop (place + 1) values)) pairs found)
        ∙ after_more entries (entry_of pairs) (entries_of (items_view (drop (place + 1) values)))

    pub entries_fail : None ≡ as_table (view value) → None ≡ all
    entries_fail none =
        sym (left ∙ ap (λ (items : Items). after entries (entries_of items)) first_left
        ∙ ap (after entries) (entries_stop (view value) (items_view (drop (place + 1) values)) none))

-- a value, by the accessors that were tried
pub setting_text : (datum : Data) (text : List ℕ) → Some text ≡ as_str datum → Text text ≡ setting_of datum
setting_text (string other) text is = cc
setting_text (integer n) text is = cc
setting_text (float n) text is = cc
setting_text (boolean n) text is = cc
setting_text (datetime n) text is = cc
setting_text (array n) text is = cc
setting_text (table n) text is = cc

pub setting_integer : (datum : Data) (number : ℤ) → Some number ≡ as_integer datum → Integer number ≡ setting_of datum
setting_integer (string n) number is = cc
setting_integer (integer other) number is = cc
setting_integer (float n) number is = cc
setting_integer (boolean n) number is = cc
setting_integer (datetime n) number is = cc
setting_integer (array n) number is = cc
setting_integer (table n) number is = cc

pub setting_array : (datum : Data) (items : Items) → Some items ≡ as_array datum → array_setting (texts_of items) ≡ setting_of datum
setting_array (string n) items is = cc
setting_array (integer n) items is = cc
setting_array (float n) items is = cc
setting_array (boolean n) items is = cc
setting_array (datetime n) items is = cc
setting_array (array other) items is = let same : items ≡ other = cc in ap (λ (it : Items). array_setting (texts_of it)) same
setting_array (table n) items is = cc

pub setting_other : (datum : Data) → None ≡ as_str datum → None ≡ as_integer datum → None ≡ as_array datum → Other ≡ setting_of datum
setting_other (string n) no_text no_number no_array = cc
setting_other (integer n) no_text no_number no_array = cc
setting_other (float n) no_text no_number no_array = refl
setting_other (boolean n) no_text no_number no_array = refl
setting_other (datetime n) no_text no_number no_array = refl
setting_other (array n) no_text no_number no_array = cc
setting_other (table n) no_text no_number no_array = refl

pub section_array : (datum : Data) (items : Items) → Some items ≡ as_array datum → entries_of items ≡ section_of (Some datum)
section_array (string n) items is = cc
section_array (integer n) items is = cc
section_array (float n) items is = cc
section_array (boolean n) items is = cc
section_array (datetime n) items is = cc
section_array (array other) items is = let same : items ≡ other = cc in ap entries_of same
section_array (table n) items is = cc

pub section_none : (datum : Data) → None ≡ as_array datum → None ≡ section_of (Some datum)
section_none (string n) is = refl
section_none (integer n) is = refl
section_none (float n) is = refl
section_none (boolean n) is = refl
section_none (datetime n) is = refl
section_none (array n) is = cc
section_none (table n) is = refl

switch_value : (datum : Data) → as_bool datum ≡ switch_of (Some datum)
switch_value (string n) = refl
switch_value (integer n) = refl
switch_value (float n) = refl
switch_value (boolean n) = refl
switch_value (datetime n) = refl
switch_value (array n) = refl
switch_value (table n) = refl

-- a turn of the loop over the pairs of a table
pub entry_next : (all entry : List Field) (key : String Global) (value : Value) (left : List Pair)
    → all ≡ entry ++ entry_of (members_view ((key, value) ∷ left))
    → all ≡ (entry ++ record { key = string_bytes key; setting = setting_of (view value) } ∷ []) ++ entry_of (members_view left)
entry_next all entry key value left is = is ∙ sym (append_assoc entry (record { key = string_bytes key; setting = setting_of (view value) } ∷ [])
    (entry_of (members_view left)))

-- ---- the section at a key of a table

module _ (found : Option (Bor Value)) (key : List ℕ) (pairs : List Pair)
    (gets : option_map (λ x. x.now) found ≡ lookup (is_at (λ x. slice_cmp nat_cmp key (string_bytes x))) pairs) where
  -- the key of a switch is absent
  pub switch_absent : found ≡ None → Some false ≡ switch_of (get_member key (members_view pairs))
  switch_absent is = ap switch_of (sym (sym (table_get found key pairs gets) ∙ ap (option_map (λ x. view x.now)) is))

  -- the key is absent
  pub section_absent : (entries : List (List Field)) → found ≡ None → entries ≡ [] → Some entries ≡ section_of (get_member key (members_view pairs))
  section_absent entries is none =
      let at : get_member key (members_view pairs) ≡ None = sym (table_get found key pairs gets) ∙ ap (option_map (λ x. view x.now)) is in
      ap Some none ∙ ap section_of (sym at)

  module _ (value : Bor Value) (is : found ≡ Some value) where
    at_value : get_member key (members_view pairs) ≡ Some (view value.now)
    at_value = sym (table_get found key pairs gets) ∙ ap (option_map (λ x. view x.now)) is

    -- a truth value is there, or something else
    pub switch_there : as_bool (view value.now) ≡ switch_of (get_member key (members_view pairs))
    switch_there = switch_value (view value.now) ∙ ap switch_of (sym at_value)

    -- an array is there
    pub section_entries : (items : Items) → Some items ≡ as_array (view value.now) → entries_of items ≡ section_of (get_member key (members_view pairs))
    section_entries items there = section_array (view value.now) items there ∙ ap section_of (sym at_value)

    -- something else is there
    pub section_other : None ≡ as_array (view value.now) → None ≡ section_of (get_member key (members_view pairs))
    section_other none = section_none (view value.now) none ∙ ap section_of (sym at_value)

pub none_some : (found : Option Members) (pairs : Members) → found ≡ None → found ≡ Some pairs → ⊥
none_some found pairs none some = let wrong : None ≡ Some pairs = sym none ∙ some in cc
