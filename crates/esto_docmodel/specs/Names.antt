-- Names of fields that rise strictly in the order of their bytes.
use Rattle.std.specs.Prelude.{◌≡◌, Bool, true, false, cond, ℕ, List, [], ◌∷◌, IsTrue}
use Rattle.std.specs.Cmp.Lexicographic.{slice_cmp}
use Rattle.std.specs.Ordering.{nat_cmp, is_lt}
use Rattle.std.specs.Coded.{Coded, coded×, coded_list, coded_ℕ}
use Rattle.esto_docmodel.specs.declared.field.FieldOf.{FieldOf}

-- The names of fields.
abbrev pub names_of : {X : Type 0} → List (FieldOf X) → List (List ℕ)
names_of [] = []
names_of (field ∷ rest) = field.name ∷ names_of rest

-- Whether each name is less than the next, beginning with this one.
abbrev pub rise_from : List ℕ → List (List ℕ) → Bool
rise_from name [] = true
rise_from name (next ∷ rest) = cond (is_lt (slice_cmp nat_cmp name next)) (rise_from next rest) false

-- Whether each name is less than the next.
abbrev pub rise : List (List ℕ) → Bool
rise [] = true
rise (name ∷ rest) = rise_from name rest

-- The names of the fields rise strictly, so no name stands twice.
abbrev pub Rise : {X : Type 0} → List (FieldOf X) → Type 0
Rise fields = IsTrue (rise (names_of fields))

-- A field as a pair of its name and what stands there.
abbrev pub parts : {X : Type 0} → FieldOf X → List ℕ × X
parts field = (field.name, field.tree)

-- Fields with one name and one thing there are one field.
pub parts_inj : {X : Type 0} (field other : FieldOf X) → parts field ≡ parts other → field ≡ other
parts_inj field other same = λ i. record { name = (same i).0; tree = (same i).1 }

-- The code of a field, from that of what stands there.
abbrev pub field_code : {X : Type 0} → Coded X → Coded (FieldOf X)
field_code c = record {
  code = λ field. (coded× (coded_list coded_ℕ) c).code (parts field);
  inj =
      λ field other same. parts_inj field other ((coded× (coded_list coded_ℕ) c).inj (parts field) (parts other) same);
}
