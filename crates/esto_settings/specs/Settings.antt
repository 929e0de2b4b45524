-- What is written in a catalogue, without the form in which TOML keeps it.
use Rattle.std.specs.Prelude.{◌≡◌, ℕ, List, [], ◌∷◌, Option, Some, None, Bool, false, option_map, if◌then◌else◌, nat_eq, IsUtf8, codes}
use Rattle.std.specs.List.{list_any}
use Rattle.std.specs.Cmp.Lexicographic.{pointwise}
use Rattle.toml.specs.Data.{Data, string, integer, boolean, array, table, Items, no_items, item, Members, no_members, member, get_member}
use Rattle.toml.specs.Parse.{parse_document}
use Rattle.esto_settings.specs.declared.setting.Document.{Document}
use Rattle.esto_settings.specs.declared.setting.Field.{Field}
use Rattle.esto_settings.specs.declared.setting.Setting.{Setting}
use Rattle.esto_settings.specs.declared.setting.Setting.TheVariants.{Text, Integer, Texts, Other}
use Rattle.esto_settings.specs.declared.setting.TomlError.{TomlError}
use Rattle.esto_settings.specs.declared.setting.TomlError.TheVariants.{Refused, OutOfMemory}

-- The texts of an array that has nothing else.
abbrev pub texts_of : Items → Option (List (List ℕ))
texts_of no_items = Some []
texts_of (item (string text) items) = option_map (λ (texts : List (List ℕ)). text ∷ texts) (texts_of items)
texts_of (item _ items) = None

-- An array of texts, or something else.
abbrev pub array_setting : Option (List (List ℕ)) → Setting
array_setting (Some texts) = Texts texts
array_setting None = Other

-- A value as what a key may be set to.
abbrev pub setting_of : Data → Setting
setting_of (string text) = Text text
setting_of (integer number) = Integer number
setting_of (array items) = array_setting (texts_of items)
setting_of _ = Other

-- The keys of a table with their settings.
abbrev pub entry_of : Members → List Field
entry_of no_members = []
entry_of (member key datum rest) = record { key = key; setting = setting_of datum } ∷ entry_of rest

-- The entries of an array that has nothing but tables.
abbrev pub entries_of : Items → Option (List (List Field))
entries_of no_items = Some []
entries_of (item (table members) items) = option_map (λ (entries : List (List Field)). entry_of members ∷ entries) (entries_of items)
entries_of (item _ items) = None

-- The entries of a section: an absent one has none, and what is no array of tables is no section.
abbrev pub section_of : Option Data → Option (List (List Field))
section_of None = Some []
section_of (Some (array items)) = entries_of items
section_of (Some _) = None

-- A switch: an absent one is false, and what is no truth value is no switch.
abbrev pub switch_of : Option Data → Option Bool
switch_of None = Some false
switch_of (Some (boolean value)) = Some value
switch_of (Some _) = None

-- What the top table of a catalogue says.
abbrev pub document_of : Members → Document
document_of members = record {
  fields = entry_of members;
  core = switch_of (get_member (codes "core") members);
  datasets = section_of (get_member (codes "dataset") members);
  fragments = section_of (get_member (codes "fragment") members);
  constraints = section_of (get_member (codes "constraint") members);
}

-- The bytes are UTF-8, and TOML of this table.
abbrev pub IsTable : List ℕ → Members → Type 0
IsTable bytes members = IsUtf8 bytes × (parse_document bytes ≡ Some members)

-- The bytes are UTF-8 and TOML, and this is what their table says.
abbrev pub IsDocument : List ℕ → Document → Type 0
IsDocument bytes document = (members : Members) × IsTable bytes members × (document ≡ document_of members)

-- The bytes are not UTF-8, or no TOML.
abbrev pub HasNoTable : List ℕ → Type 0
HasNoTable bytes = (members : Members) → ¬ IsTable bytes members

-- Why the bytes have no document: they have no table, or memory is wanting.
abbrev pub IsTomlError : List ℕ → TomlError → Type 0
IsTomlError bytes Refused = HasNoTable bytes
IsTomlError bytes OutOfMemory = Unit {0}

-- Two texts are the same.
abbrev pub is_same : List ℕ → List ℕ → Bool
is_same text other = pointwise nat_eq text other

-- The entry has the key.
abbrev pub has_key : List ℕ → List Field → Bool
has_key key entry = list_any (λ (field : Field). is_same field.key key) entry

-- What the key is set to, where the entry has it.
abbrev pub setting_at : List ℕ → List Field → Option Setting
setting_at key [] = None
setting_at key (field ∷ entry) = if is_same field.key key then Some field.setting else setting_at key entry
