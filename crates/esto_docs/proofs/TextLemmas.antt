-- The compact text of a document of texts has no line feed and no blank start.
use Rattle.std.proofs.Common.{◌≡◌, ◌≤◌, ◌∙◌, ◌==◌, ◌||◌, ◌++◌, ◌∷◌, [], ℕ, List, Bool, true, false, cond, ◌/◌, ◌%◌, refl, arith, inl, inr}
use Rattle.std.specs.Prelude.{nat_lt}
use Rattle.std.specs.Char.{digit_char}
use Rattle.std.specs.List.{list_any}
use Rattle.std.proofs.lemmas.Bool.{cases_Bool, ne_eqb}
use Rattle.std.proofs.lemmas.List.Folds.{list_any-append}
use Rattle.json.specs.Print.{escape_byte, escape, quoted}
use Rattle.serde_json.specs.Data.{Data, null, boolean, number, string, array, object, Items, no_items, item, Members, no_members, member}
use Rattle.serde_json.specs.Written.{compact_text, items_text, members_text, comma_if, has_float, items_have_float, members_have_float}
use Rattle.esto_docs.specs.Files.{is_blank}
use Rattle.esto_docs.specs.Plain.{HasTextsOnly, ItemsHaveTextsOnly, MembersHaveTextsOnly, IsContainer}

-- No line feed is among these bytes.
abbrev has_feed : List ℕ → Bool
has_feed bytes = list_any (λ b. b == 10) bytes

both : (xs ys : List ℕ) → has_feed xs ≡ false → has_feed ys ≡ false → has_feed (xs ++ ys) ≡ false
both xs ys e h = list_any-append (λ b. b == 10) xs ys ∙ rw (e, h) refl

digit_at_least : (d : ℕ) → 48 ≤ digit_char d
digit_at_least d = elim (cases_Bool (nat_lt d 10)) [
  | inl low ↦ rw low (omega arith)
  | inr high ↦ rw high (omega arith)
]

digit_plain : (d : ℕ) → (digit_char d == 10) ≡ false
digit_plain d = let h = digit_at_least d in ne_eqb (digit_char d) 10 (λ e. omega arith)

-- What stands for a byte in a text.
escape_cases : (quote backspace page feed carriage tab_byte low : Bool) (x : ℕ) → (quote ≡ true → (x == 10) ≡ false) → (low ≡ false → (x == 10) ≡ false)
    → has_feed (cond (nat_lt 0 (cond quote x (cond backspace 98 (cond page 102 (cond feed 110 (cond carriage 114 (cond tab_byte 116 0)))))))
    (92 ∷ cond quote x (cond backspace 98 (cond page 102 (cond feed 110 (cond carriage 114 (cond tab_byte 116 0))))) ∷ [])
    (cond low (92 ∷ 117 ∷ 48 ∷ 48 ∷ digit_char (x / 16) ∷ digit_char (x % 16) ∷ []) (x ∷ []))) ≡ false
escape_cases true b p f c t low x q l = elim (cases_Bool (nat_lt 0 x)) [
  | inl some ↦ rw (some, q refl) refl
  | inr none ↦ elim (cases_Bool low) [
    | inl yes_low ↦ rw (none, yes_low, digit_plain (x / 16), digit_plain (x % 16)) refl
    | inr high ↦ rw (none, high, q refl) refl
  ]
]
escape_cases false true p f c t low x q l = refl
escape_cases false false true f c t low x q l = refl
escape_cases false false false true c t low x q l = refl
escape_cases false false false false true t low x q l = refl
escape_cases false false false false false true low x q l = refl
escape_cases false false false false false false true x q l = rw (digit_plain (x / 16), digit_plain (x % 16)) refl
escape_cases false false false false false false false x q l = rw (l refl) refl

quote_plain : (x : ℕ) → ((x == 34) || (x == 92)) ≡ true → (x == 10) ≡ false
quote_plain x h = ne_eqb x 10 (λ e. let k : ((10 == 34) || (10 == 92)) ≡ true = rw e at h in cc k)

high_plain : (x : ℕ) → nat_lt x 32 ≡ false → (x == 10) ≡ false
high_plain x h = ne_eqb x 10 (λ e. let k : nat_lt 10 32 ≡ false = rw e at h in cc k)

escape_plain : (x : ℕ) → has_feed (escape_byte x) ≡ false
unfolding escape_byte
escape_plain x = escape_cases ((x == 34) || (x == 92)) (x == 8) (x == 12) (x == 10) (x == 13) (x == 9) (nat_lt x 32) x (quote_plain x) (high_plain x)

escaped_plain : (s : List ℕ) → has_feed (escape s) ≡ false
escaped_plain [] = refl
escaped_plain (x ∷ s) = both (escape_byte x) (escape s) (escape_plain x) (escaped_plain s)

quoted_plain : (s : List ℕ) → has_feed (quoted s) ≡ false
quoted_plain s = both (escape s) (34 ∷ []) (escaped_plain s) refl

comma_plain : (later : Bool) → has_feed (comma_if later) ≡ false
comma_plain true = refl
comma_plain false = refl

-- The text of a value of texts has no line feed.
mutual
  pub text_plain : (d : Data) → HasTextsOnly d → has_feed (compact_text d) ≡ false
  text_plain null h = absurd h
  text_plain (boolean b) h = absurd h
  text_plain (number n) h = absurd h
  text_plain (string s) h = quoted_plain s
  text_plain (array ds) h = items_plain false ds h
  text_plain (object ms) h = members_plain false ms h

  items_plain : (later : Bool) (ds : Items) → ItemsHaveTextsOnly ds → has_feed (items_text later ds) ≡ false
  items_plain later no_items h = refl
  items_plain later (item d ds) h =
      both (comma_if later) (compact_text d ++ items_text true ds) (comma_plain later)
      (both (compact_text d) (items_text true ds) (text_plain d h.0) (items_plain true ds h.1))

  members_plain : (later : Bool) (ms : Members) → MembersHaveTextsOnly ms → has_feed (members_text later ms) ≡ false
  members_plain later no_members h = refl
  members_plain later (member k d ms) h =
      both (comma_if later) (quoted k ++ 58 ∷ (compact_text d ++ members_text true ms)) (comma_plain later)
      (both (quoted k) (58 ∷ (compact_text d ++ members_text true ms)) (quoted_plain k)
      (both (compact_text d) (members_text true ms) (text_plain d h.0) (members_plain true ms h.1)))

-- It has no number, so no float.
either_none : (a b : Bool) → a ≡ false → b ≡ false → (a || b) ≡ false
either_none a b e h = rw (e, h) refl

mutual
  pub no_float : (d : Data) → HasTextsOnly d → has_float d ≡ false
  no_float null h = absurd h
  no_float (boolean b) h = absurd h
  no_float (number n) h = absurd h
  no_float (string s) h = refl
  no_float (array ds) h = items_no_float ds h
  no_float (object ms) h = members_no_float ms h

  items_no_float : (ds : Items) → ItemsHaveTextsOnly ds → items_have_float ds ≡ false
  items_no_float no_items h = refl
  items_no_float (item d ds) h = either_none (has_float d) (items_have_float ds) (no_float d h.0) (items_no_float ds h.1)

  members_no_float : (ms : Members) → MembersHaveTextsOnly ms → members_have_float ms ≡ false
  members_no_float no_members h = refl
  members_no_float (member k d ms) h = either_none (has_float d) (members_have_float ms) (no_float d h.0) (members_no_float ms h.1)

-- A text of an object or an array begins with its bracket.
pub text_not_blank : (d : Data) → IsContainer d → is_blank (compact_text d) ≡ false
text_not_blank null h = absurd h
text_not_blank (boolean b) h = absurd h
text_not_blank (number n) h = absurd h
text_not_blank (string s) h = absurd h
text_not_blank (array ds) h = refl
text_not_blank (object ms) h = refl
