-- The names of the relations of datasets are all different.
use Rattle.std.proofs.Common.{◌≡◌, ◌≢◌, ◌&&◌, ◌||◌, ℕ, List, [], ◌∷◌, ◌++◌, length, map, Bool, true, false, not, inl, inr, refl, sym, ap, subst, ◌∙◌, arith}
use Rattle.std.proofs.Common.{codes}
use Rattle.std.specs.Prelude.{Contains, AllPairs, nat_eq, if◌then◌else◌}
use Rattle.std.specs.List.{list_all, list_any}
use Rattle.std.proofs.lemmas.Bool.{and_parts, false≢true}
use Rattle.std.proofs.lemmas.Bool.Decides.{nat_tests}
use Rattle.std.proofs.lemmas.Cmp.{nat_list_eq_equiv}
use Rattle.std.proofs.lemmas.List.{append_assoc, append_cancel_left, map-append}
use Rattle.std.proofs.lemmas.List.Elements.{Contains-append_cases}
use Rattle.esto_query.specs.Schemas.{names_of}
use Rattle.esto_query.specs.declared.schema.Relation.{Relation}
use Rattle.esto_docmodel.specs.declared.words.DataModel.{DataModel}
use Rattle.esto_docmodel.specs.declared.words.DataModel.TheVariants.{Table, Documents, Keys}
use Rattle.esto_term.proofs.ChoiceLemmas.{pairs_append, pairs_cons, pairs_head, pairs_map, pairs_tail}
use Rattle.esto_term.proofs.ListLemmas.{Contains-cases, Contains-head, Contains-map_from, Contains-nil, Contains-rest}
use Rattle.esto_mapping.specs.Datasets.{is_letter, is_name, is_name_byte, model_relations, part_name, relations_of, schema_of}
use Rattle.esto_settings.specs.Settings.{is_same}
use Rattle.esto_mapping.specs.declared.dataset.Dataset.{Dataset}

pub or_false : (a b : Bool) → (a || b) ≡ false → (a ≡ false) × (b ≡ false)
or_false false b is = (refl, is)
or_false true b is = cc

-- where a test holds of none, it holds of no item
pub any_free : {A : Type 0} (test : A → Bool) (items : List A) → list_any test items ≡ false → (item : A) → Contains items item → test item ≡ false
any_free test [] none item inside = absurd (Contains-nil item inside)
any_free test (first ∷ items) none item inside =
    let both = or_false (test first) (list_any test items) none in
    elim (Contains-cases first items item inside) [
      | inl same ↦ ap test (sym same) ∙ both.0
      | inr later ↦ any_free test items both.1 item later
    ]

-- ---- a text up to its first dot

abbrev stem : List ℕ → List ℕ
stem [] = []
stem (byte ∷ rest) = if nat_eq byte 46 then [] else (byte ∷ stem rest)

-- a text without a dot
abbrev plain : List ℕ → Bool
plain text = list_all (λ byte. not (nat_eq byte 46)) text

stem_cons : (byte : ℕ) (rest : List ℕ) → not (nat_eq byte 46) ≡ true → stem (byte ∷ rest) ≡ byte ∷ stem rest
stem_cons byte rest free = by (nat_eq byte 46) free where
  by : (b : Bool) → not b ≡ true → (if b then [] else (byte ∷ stem rest)) ≡ byte ∷ stem rest
  by true free = absurd (false≢true free)
  by false free = refl

stem_own : (text : List ℕ) → plain text ≡ true → stem text ≡ text
stem_own [] free = refl
stem_own (byte ∷ rest) free =
    let both = and_parts (not (nat_eq byte 46)) (plain rest) free in
    stem_cons byte rest both.0 ∙ ap (λ it. byte ∷ it) (stem_own rest both.1)

stem_part : (text own : List ℕ) → plain text ≡ true → stem (text ++ 46 ∷ own) ≡ text
stem_part [] own free = refl
stem_part (byte ∷ rest) own free =
    let both = and_parts (not (nat_eq byte 46)) (plain rest) free in
    stem_cons byte (rest ++ 46 ∷ own) both.0 ∙ ap (λ it. byte ∷ it) (stem_part rest own both.1)

byte_free : (byte : ℕ) → is_name_byte byte ≡ true → not (nat_eq byte 46) ≡ true
byte_free byte own = by (nat_eq byte 46) refl where
  by : (b : Bool) → nat_eq byte 46 ≡ b → not b ≡ true
  by true is = let same : byte ≡ 46 = grind (arith, nat_tests) in absurd (false≢true (sym (ap is_name_byte same) ∙ own))
  by false is = refl

letter_free : (byte : ℕ) → is_letter byte ≡ true → not (nat_eq byte 46) ≡ true
letter_free byte own = by (nat_eq byte 46) refl where
  by : (b : Bool) → nat_eq byte 46 ≡ b → not b ≡ true
  by true is = let same : byte ≡ 46 = grind (arith, nat_tests) in absurd (false≢true (sym (ap is_letter same) ∙ own))
  by false is = refl

bytes_free : (bytes : List ℕ) → list_all is_name_byte bytes ≡ true → plain bytes ≡ true
bytes_free [] own = refl
bytes_free (byte ∷ rest) own =
    let both = and_parts (is_name_byte byte) (list_all is_name_byte rest) own in
    rw (byte_free byte both.0) (bytes_free rest both.1)

-- a name has no dot
name_free : (name : List ℕ) → is_name name ≡ true → plain name ≡ true
name_free [] own = absurd (false≢true own)
name_free (first ∷ rest) own =
    let (letter, more) = and_parts (is_letter first) _ own in
    rw (letter_free first letter) (bytes_free rest (and_parts (list_all is_name_byte rest) _ more).0)

part_dotted : (name own : List ℕ) → part_name name own ≡ name ++ 46 ∷ own
part_dotted name own = append_assoc name (codes ".") own

-- ---- the parts of one dataset

-- no two of the texts are the same, by a test
abbrev apart : List (List ℕ) → Bool
apart [] = true
apart (text ∷ texts) = not (list_any (is_same text) texts) && apart texts

not_true : (b : Bool) → not b ≡ true → b ≡ false
not_true true is = absurd (false≢true is)
not_true false is = refl

apart_pairs : (texts : List (List ℕ)) → apart texts ≡ true → AllPairs ◌≢◌ texts
apart_pairs [] free = λ i j d before below. absurd (omega (arith, below))
apart_pairs (text ∷ texts) free =
    let (none, more) = and_parts (not (list_any (is_same text) texts)) (apart texts) free in
    pairs_cons ◌≢◌ text texts
    (λ other inside same. false≢true (sym (any_free (is_same text) texts (not_true _ none) other inside) ∙ (ap (is_same text) (sym same)
    ∙ nat_list_eq_equiv.refl text)))
    (apart_pairs texts more)

parts_apart : (name : List ℕ) (owns : List (List ℕ)) → apart owns ≡ true → AllPairs ◌≢◌ (map (part_name name) owns)
parts_apart name owns free =
    pairs_map (part_name name) ◌≢◌ ◌≢◌ (λ one other differ same. differ (append_cancel_left (name ++ codes ".") one other same)) owns (apart_pairs owns free)

abbrev document_parts : List (List ℕ)
document_parts = codes "root" ∷ codes "field" ∷ codes "item" ∷ codes "value" ∷ codes "below" ∷ []

one_pair : (text : List ℕ) → AllPairs ◌≢◌ (text ∷ [])
one_pair text = pairs_cons ◌≢◌ text [] (λ other inside. absurd (Contains-nil other inside)) (apart_pairs [] refl)

relations_apart : (name : List ℕ) (columns : ℕ) (model : DataModel) → AllPairs ◌≢◌ (names_of (model_relations name columns model))
relations_apart name columns Table = one_pair name
relations_apart name columns Documents = parts_apart name document_parts refl
relations_apart name columns Keys = one_pair (part_name name (codes "pair"))

-- ---- the parts of different datasets

part_stem : (name own : List ℕ) → is_name name ≡ true → stem (part_name name own) ≡ name
part_stem name own is = ap stem (part_dotted name own) ∙ stem_part name own (name_free name is)

parts_stem : (name : List ℕ) (owns : List (List ℕ)) → is_name name ≡ true → (text : List ℕ) → Contains (map (part_name name) owns) text → stem text ≡ name
parts_stem name owns is text inside =
    let (own, there, same) = Contains-map_from (part_name name) owns text inside in ap stem (sym same) ∙ part_stem name own is

-- the relation of a dataset tells the dataset's name
relation_stem : (name : List ℕ) (columns : ℕ) (model : DataModel) → is_name name ≡ true → (text : List ℕ)
    → Contains (names_of (model_relations name columns model)) text → stem text ≡ name
relation_stem name columns Table is text inside = elim (Contains-cases name [] text inside) [
  | inl same ↦ ap stem (sym same) ∙ stem_own name (name_free name is)
  | inr later ↦ absurd (Contains-nil text later)
]
relation_stem name columns Documents is text inside = parts_stem name document_parts is text inside
relation_stem name columns Keys is text inside = parts_stem name (codes "pair" ∷ []) is text inside

abbrev pub name_of : Dataset → List ℕ
name_of dataset = dataset.name

names_append : (xs ys : List Relation) → names_of (xs ++ ys) ≡ names_of xs ++ names_of ys
names_append xs ys = map-append (λ (r : Relation). r.name) xs ys

-- a relation of some datasets is that of one of them
owner : (datasets : List Dataset) → ((dataset : Dataset) → Contains datasets dataset → is_name dataset.name ≡ true) → (text : List ℕ)
    → Contains (names_of (schema_of datasets)) text
    → Contains (map name_of datasets) (stem text)
owner [] named text inside = absurd (Contains-nil text inside)
owner (dataset ∷ datasets) named text inside =
    elim (Contains-append_cases (names_of (relations_of dataset)) (names_of (schema_of datasets)) text
    (subst (λ (l : List (List ℕ)). Contains l text) (names_append (relations_of dataset) (schema_of datasets)) inside)) [
      | inl own ↦
          let same = relation_stem dataset.name (length dataset.columns) dataset.model (named dataset (Contains-head dataset datasets)) text own in
          subst (Contains (map name_of (dataset ∷ datasets))) (sym same) (Contains-head dataset.name (map name_of datasets))
      | inr later ↦
          Contains-rest dataset.name (map name_of datasets) (stem text)
          (owner datasets (λ other there. named other (Contains-rest dataset datasets other there)) text later)
    ]

-- the names of the relations of datasets of different names are different
pub names_apart : (datasets : List Dataset) → AllPairs ◌≢◌ (map name_of datasets)
    → ((dataset : Dataset) → Contains datasets dataset → is_name dataset.name ≡ true) → AllPairs ◌≢◌ (names_of (schema_of datasets))
names_apart [] distinct named = apart_pairs [] refl
names_apart (dataset ∷ datasets) distinct named =
    subst (AllPairs ◌≢◌) (sym (names_append (relations_of dataset) (schema_of datasets)))
    (pairs_append ◌≢◌ (names_of (relations_of dataset)) (names_of (schema_of datasets))
    (relations_apart dataset.name (length dataset.columns) dataset.model)
    (names_apart datasets (pairs_tail ◌≢◌ dataset.name (map name_of datasets) distinct) later)
    (λ own other here there same.
    let own_stem = relation_stem dataset.name (length dataset.columns) dataset.model (named dataset (Contains-head dataset datasets)) own here in
    let at = owner datasets later other there in
    pairs_head ◌≢◌ dataset.name (map name_of datasets) distinct (stem other) at (sym own_stem ∙ ap stem same))) where
      later : (other : Dataset) → Contains datasets other → is_name other.name ≡ true
      later other there = named other (Contains-rest dataset datasets other there)
