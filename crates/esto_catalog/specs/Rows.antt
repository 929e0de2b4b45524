-- What rows of the catalogue's table have in common.
use Rattle.std.specs.Prelude.{◌≡◌, ◌≢◌, ◌⊎◌, ℕ, List, [], ◌∷◌, Option, Some, None, Bool, false, Contains, Result, codes}
use Rattle.std.specs.Ordering.{nat_cmp}
use Rattle.std.specs.Cmp.Lexicographic.{slice_cmp}
use Rattle.std.specs.List.{list_any}
use Rattle.std.specs.declared.cmp.Ordering.TheVariants.{Greater}
use Rattle.esto_course.specs.Course.{Course, judges, gives, refuses, Runs}
use Rattle.esto_text.specs.declared.fault.TextFault.{TextFault}
use Rattle.esto_settings.specs.Settings.{is_same}
use Rattle.esto_catalog.specs.declared.fault.CatalogueError.{CatalogueError}
use Rattle.esto_catalog.specs.declared.fault.CatalogueError.TheVariants.{Fault, OutOfMemory}
use Rattle.esto_status.specs.declared.fault.CatalogueKind.{CatalogueKind}
use Rattle.esto_status.specs.declared.fault.CatalogueKind.TheVariants.{UnknownKey, WrongType, Missing, BadText}
use Rattle.esto_catalog.specs.declared.fault.Place.{Place}
use Rattle.esto_status.specs.declared.fault.Section.TheVariants.{Top as AtTop}
use Rattle.esto_catalog.specs.declared.row.Keys.{Keys}
use Rattle.esto_catalog.specs.declared.row.Keys.TheVariants.{Top, TopOfTwo, Dataset, Fragment, Constraint}
use Rattle.esto_settings.specs.declared.setting.Field.{Field}
use Rattle.esto_settings.specs.declared.setting.Setting.{Setting}
use Rattle.esto_settings.specs.declared.setting.Setting.TheVariants.{Text, Texts}

-- A fault of this kind at the key of the entry at the place, with that of a text where it is one's.
abbrev pub fault_with : CatalogueKind → Place → List ℕ → Option TextFault → CatalogueError
fault_with kind place key text = Fault (record { kind = kind; section = place.section; number = place.number; key = key; text = text })

-- A fault of this kind at the key of the entry at the place.
abbrev pub fault_at : CatalogueKind → Place → List ℕ → CatalogueError
fault_at kind place key = fault_with kind place key None

-- The text at the key has this fault.
abbrev pub text_fault_at : TextFault → Place → List ℕ → CatalogueError
text_fault_at fault place key = fault_with BadText place key (Some fault)

-- The top of the file.
abbrev pub top : Place
top = record { section = AtTop; number = 0 }

-- Want of memory, the one free answer.
abbrev pub IsWant : CatalogueError → Type 0
IsWant error = error ≡ OutOfMemory

-- Any error.
abbrev pub IsAny : CatalogueError → Type 0
IsAny error = Unit {0}

-- The error is this fault, or want of memory.
abbrev pub IsFault : CatalogueError → CatalogueError → Type 0
IsFault fault error = (error ≡ fault) ⊎ (error ≡ OutOfMemory)

-- The answer is a value with which the course goes on, or an error with which it stops, or want of memory.
abbrev pub Walks : {A : Type 0} → Course CatalogueError A → Result A CatalogueError → Type 0
Walks course result = Runs IsWant IsAny course result

-- The keys that a table may have, in the order in which they are read. The top of version 2 has one more.
abbrev pub known_keys : Keys → List (List ℕ)
known_keys Top = codes "version" ∷ codes "dataset" ∷ codes "fragment" ∷ codes "constraint" ∷ []
known_keys TopOfTwo = codes "version" ∷ codes "core" ∷ codes "dataset" ∷ codes "fragment" ∷ codes "constraint" ∷ []
known_keys Dataset = codes "name" ∷ codes "model" ∷ codes "columns" ∷ codes "layout" ∷ codes "file" ∷ []
known_keys Fragment =
    codes "view" ∷ codes "store" ∷ codes "file" ∷ codes "columns" ∷ codes "layout" ∷ codes "pattern" ∷ codes "access" ∷ codes "weight" ∷ []
known_keys Constraint = codes "rule" ∷ []

-- The key is one of these.
abbrev pub is_known : Keys → List ℕ → Bool
is_known keys key = list_any (is_same key) (known_keys keys)

-- The entry has the key, and it is none of these.
abbrev pub IsUnknown : Keys → List Field → List ℕ → Type 0
IsUnknown keys entry key = (field : Field) × Contains entry field × (field.key ≡ key) × (is_known keys key ≡ false)

-- It is the least of the unknown keys, by bytes.
abbrev pub IsLeastUnknown : Keys → List Field → List ℕ → Type 0
IsLeastUnknown keys entry key =
    IsUnknown keys entry key × ((other : List ℕ) → IsUnknown keys entry other → slice_cmp nat_cmp key other ≢ Greater)

-- Each key is one of these; else UnknownKey at the least that is not.
abbrev pub knows_keys : Place → Keys → List Field → Course CatalogueError (Unit {0})
knows_keys place keys entry =
    judges (λ _. (key : List ℕ) → ¬ IsUnknown keys entry key)
    (λ error. (key : List ℕ) × IsLeastUnknown keys entry key × (error ≡ fault_at UnknownKey place key))

-- A text that is needed: Missing where the key is absent, WrongType where it is set to something else.
abbrev pub needs_text : Place → List ℕ → Option Setting → Course CatalogueError (List ℕ)
needs_text place key None = refuses (fault_at Missing place key)
needs_text place key (Some (Text text)) = gives text
needs_text place key (Some _) = refuses (fault_at WrongType place key)

-- A text that may be absent: WrongType where the key is set to something else.
abbrev pub allows_text : Place → List ℕ → Option Setting → Course CatalogueError (Option (List ℕ))
allows_text place key None = gives None
allows_text place key (Some (Text text)) = gives (Some text)
allows_text place key (Some _) = refuses (fault_at WrongType place key)

-- Texts that are needed: Missing where the key is absent, WrongType where it is set to something else.
abbrev pub needs_texts : Place → List ℕ → Option Setting → Course CatalogueError (List (List ℕ))
needs_texts place key None = refuses (fault_at Missing place key)
needs_texts place key (Some (Texts texts)) = gives texts
needs_texts place key (Some _) = refuses (fault_at WrongType place key)

-- Of the other key, where there is one, and this one, it is the lesser by bytes.
abbrev pub IsLesserOf : Option (List ℕ) → List ℕ → List ℕ → Type 0
IsLesserOf None key lesser = lesser ≡ key
IsLesserOf (Some other) key lesser = ((lesser ≡ other) ⊎ (lesser ≡ key)) × (slice_cmp nat_cmp lesser other ≢ Greater) × (slice_cmp nat_cmp lesser key ≢ Greater)
