-- Sets that are packed in words: which sets the words keep, which of them are subsets or supersets of another, and what a set more does.
use Rattle.std.proofs.Common.{◌≡◌, ◌↔◌, ℕ, ◌+◌, ◌-◌, ◌*◌, ◌%◌, ◌^◌, ◌<◌, ◌≤◌, Bool, true, false, cond, not, List, [], ◌∷◌, ◌++◌, length, map, take, drop}
use Rattle.std.proofs.Common.{filter, get_or, slice_range, slice_get, Some, IfSome, IsTrue, Contains, refl, sym, ap, ◌∙◌, subst, inl, inr, arith, lit<}
use Rattle.std.proofs.Math.Nat.{mul-le-mul_right, mul-mod_left}
use Rattle.std.specs.List.{range_with_len}
use Rattle.std.proofs.lemmas.Bool.{cases_lt}
use Rattle.std.proofs.lemmas.List.{drop-append-le, drop_at, get_or_past, get_or-drop, get_or-take, length-append, length-drop, length-take, append-nil}
use Rattle.std.proofs.lemmas.List.{take-append-le, take_all, take_more}
use Rattle.std.proofs.lemmas.List.Elements.{All-contains_itself, All-weaker, filter-append}
use Rattle.std.proofs.lemmas.List.FromFn.{fill_by_all, get_or-map-range_with_len, length-map-range_with_len, map-range_with_len_more}
use Rattle.std.proofs.lemmas.Option.{slice_get-get_or}
use Rattle.esto_term.specs.Sets.{Covers, Within}
use Rattle.esto_bits.specs.Kept.{HasSuperset, Kept, is_within, kept, unless_superset}
use Rattle.esto_bits.specs.Words.{ArePacked, AreWordsBelow, LackNoBit, SomeAround, SomeWithin, set_of, sets_of, words_at, words_for}
use Rattle.esto_bits.proofs.FamilyLemmas.{filter-all}
use Rattle.esto_bits.proofs.SetLemmas.{Within-from_test, test_from_Within}
use Rattle.esto_bits.proofs.WordLemmas.{Keep, length-set_of, within_from_words, words_from_within}

-- ---- places of words

pub width_some : (count : ℕ) → 1 ≤ words_for count
width_some count = omega arith

pub room_at : (place many width : ℕ) → place < many → place * width + width ≤ many * width
room_at place many width below =
    let most : (place + 1) * width ≤ many * width = mul-le-mul_right width (omega (arith, below)) in omega (arith, most)

pub group_below : (group many width : ℕ) → 1 ≤ width → group * width + width ≤ many * width → group < many
group_below group many width some room = elim (cases_lt group many) [
  | inl below ↦ below
  | inr above ↦ absurd (let most : many * width ≤ group * width = mul-le-mul_right width above in omega (arith, most, some, room))
]

-- as many sets as words at most
pub many_within : (words : List ℕ) (count many : ℕ) → length words ≡ many * words_for count → many ≤ length words
many_within words count many whole =
    let least : 1 * many ≤ words_for count * many = mul-le-mul_right many (width_some count) in omega (arith, least, whole)

-- ---- the sets that the words keep

module _ (words : List ℕ) (count many : ℕ) where
  pub length-sets_of : length (sets_of words count many) ≡ many
  length-sets_of = length-map-range_with_len (λ place. set_of (words_at words count place) count) 0 many

  pub sets_of-at : (place : ℕ) (d : List Bool) → place < many → get_or (sets_of words count many) place d ≡ set_of (words_at words count place) count
  sets_of-at place d below = get_or-map-range_with_len (λ at. set_of (words_at words count at) count) 0 many place place d below (omega arith)

  pub slice_get-sets_of : (place : ℕ) → place < many → slice_get (sets_of words count many) place ≡ Some (set_of (words_at words count place) count)
  slice_get-sets_of place below =
      slice_get-get_or (sets_of words count many) place [] (subst (λ n. place < n) (sym length-sets_of) below) ∙ ap Some (sets_of-at place [] below)

  Contains-sets_of : (place : ℕ) → place < many → Contains (sets_of words count many) (set_of (words_at words count place) count)
  Contains-sets_of place below =
      (place, subst (λ n. place < n) (sym length-sets_of) below, sets_of-at place (set_of (words_at words count place) count) below)

  sets_of-from : (set : List Bool) → Contains (sets_of words count many) set → (place : ℕ) × (place < many) × (set_of (words_at words count place) count ≡ set)
  sets_of-from set has =
      let below : has.0 < many = subst (λ n. has.0 < n) length-sets_of has.1 in (has.0, below, sym (sets_of-at has.0 set below) ∙ has.2)

fits_in_part : (words : List ℕ) (from to : ℕ) → ((place : ℕ) → get_or words place 0 < 2 ^ 64) → (place : ℕ) → get_or (slice_range words from to) place 0 < 2 ^
    64
fits_in_part words from to fits place = elim (cases_lt place (to - from)) [
  | inl below ↦ subst (λ n. n < 2 ^ 64) (sym (get_or-take (to - from) (drop from words) place 0 below ∙ get_or-drop from words place 0)) (fits (from + place))
  | inr past ↦
      subst (λ n. n < 2 ^ 64)
      (sym (get_or_past (slice_range words from to) place 0 (omega (arith, past, length-take (to - from) (drop from words)))))
      (lit< tt)
]

-- ---- subsets and supersets among them

module _ (words : List ℕ) (count many : ℕ) (packed : ArePacked words count many) (row : List ℕ) (below : AreWordsBelow row count) where
  abbrev set : List Bool
  set = set_of row count

  abbrev set_at : ℕ → List Bool
  set_at place = set_of (words_at words count place) count

  keep : Keep row count set
  keep = record { below = below; is = refl }

  keep_at : (place : ℕ) → place < many → Keep (words_at words count place) count (set_at place)
  keep_at place inside = record { below = packed.below place inside; is = refl }

  alike : (place : ℕ) → length (set_at place) ≡ length set
  alike place = length-set_of (words_at words count place) count ∙ sym (length-set_of row count)

  inside_of : (group : ℕ) → group * words_for count + words_for count ≤ length words → group < many
  inside_of group room = group_below group many (words_for count) (width_some count)
      (subst (λ n. group * words_for count + words_for count ≤ n) packed.whole room)

  room_of : (place : ℕ) → place < many → place * words_for count + words_for count ≤ length words
  room_of place inside = subst (λ n. place * words_for count + words_for count ≤ n) (sym packed.whole) (room_at place many (words_for count) inside)

  pub covers_says : ((place : ℕ) → get_or words place 0 < 2 ^ 64) → (answer : Bool) → IsTrue answer ↔ SomeWithin words (words_for count) row
      → IsTrue answer ↔ Covers (sets_of words count many) set
  covers_says fits answer says = (there, back)
    where
      there : IsTrue answer → Covers (sets_of words count many) set
      there holds =
          let found = says.0 holds in
          let inside = inside_of found.0 found.1 in (
            set_at found.0,
            Contains-sets_of words count many found.0 inside,
            within_from_words (words_at words count found.0) count (set_at found.0) (keep_at found.0 inside) row count set keep (alike found.0) found.2,
          )

      back : Covers (sets_of words count many) set → IsTrue answer
      back (other, has, within) =
          let from = sets_of-from words count many other has in
          says.1 (
            from.0,
            room_of from.0 from.1,
            words_from_within (words_at words count from.0) count (set_at from.0) (keep_at from.0 from.1) row count set keep (alike from.0)
                (fits_in_part words (from.0 * words_for count) (from.0 * words_for count + words_for count) fits)
                (subst (λ it. Within it set) (sym from.2) within),
          )

  pub superset_says : ((place : ℕ) → get_or row place 0 < 2 ^ 64) → (answer : Bool) → IsTrue answer ↔ SomeAround words (words_for count) row
      → IsTrue answer ↔ HasSuperset (sets_of words count many) set
  superset_says fits answer says = (there, back)
    where
      there : IsTrue answer → HasSuperset (sets_of words count many) set
      there holds =
          let found = says.0 holds in
          let inside = inside_of found.0 found.1 in (
            set_at found.0,
            Contains-sets_of words count many found.0 inside,
            within_from_words row count set keep (words_at words count found.0) count (set_at found.0) (keep_at found.0 inside) (sym (alike found.0)) found.2,
          )

      back : HasSuperset (sets_of words count many) set → IsTrue answer
      back (other, has, within) =
          let from = sets_of-from words count many other has in
          says.1 (
            from.0,
            room_of from.0 from.1,
            words_from_within row count set keep (words_at words count from.0) count (set_at from.0) (keep_at from.0 from.1) (sym (alike from.0)) fits
                (subst (Within set) (sym from.2) within),
          )

-- ---- one set more

-- to read a set in front is to read it before the words behind it came
words_at-left : (words more : List ℕ) (count place : ℕ) → place * words_for count + words_for count ≤ length words
    → words_at (words ++ more) count place ≡ words_at words count place
words_at-left words more count place room =
    let width = words_for count in
    let from = place * width in
    ap (take ((from + width) - from)) (drop-append-le from words more (omega (arith, room)))
    ∙ take-append-le ((from + width) - from) (drop from words) more (omega (arith, room, length-drop from words))

words_at-end : (words more : List ℕ) (count many : ℕ) → length words ≡ many * words_for count → length more ≡ words_for count
    → words_at (words ++ more) count many ≡ more
words_at-end words more count many whole long =
    let width = words_for count in
    let from = many * width in
    ap (take ((from + width) - from)) (drop_at words more from whole) ∙ take_all ((from + width) - from) more (omega (arith, long))

module _ (words : List ℕ) (count many : ℕ) (packed : ArePacked words count many) (more : List ℕ) (below : AreWordsBelow more count) where
  pub packed-push : ArePacked (words ++ more) count (many + 1)
  packed-push = record {
    whole = omega (arith, length-append words more, packed.whole, below.0);
    below = λ place inside. elim (cases_lt place many) [
      | inl early ↦ subst (λ it. AreWordsBelow it count)
          (sym (words_at-left words more count place (subst (λ n. place * words_for count + words_for count ≤ n) (sym packed.whole)
          (room_at place many (words_for count) early))))
          (packed.below place early)
      | inr late ↦
          let last : place ≡ many = omega (arith, inside, late) in
          subst (λ it. AreWordsBelow it count) (sym (ap (words_at (words ++ more) count) last ∙ words_at-end words more count many packed.whole below.0)) below
    ];
  }

  pub sets_of-push : sets_of (words ++ more) count (many + 1) ≡ sets_of words count many ++ set_of more count ∷ []
  sets_of-push =
      map-range_with_len_more (λ place. set_of (words_at (words ++ more) count place) count) 0 many many (omega arith)
      ∙ (λ i. first i ++ set_of (words_at-end words more count many packed.whole below.0 i) count ∷ [])
    where
      first : map (λ place. set_of (words_at (words ++ more) count place) count) (range_with_len 0 many) ≡ sets_of words count many
      first =
          sym (fill_by_all (λ place. set_of (words_at (words ++ more) count place) count) (sets_of words count many) many [] (length-sets_of words count many)
          (λ place inside. sets_of-at words count many place [] inside
          ∙ ap (λ it. set_of it count) (sym (words_at-left words more count place (subst (λ n. place * words_for count + words_for count ≤ n) (sym packed.whole)
          (room_at place many (words_for count) inside))))))

-- no words keep no sets
pub packed-none : (count : ℕ) → ArePacked [] count 0
packed-none count = record { whole = omega arith; below = λ place inside. absurd (omega (arith, inside)) }

-- where no set is a superset, none is left out
pub none_left_out : (sets : List (List Bool)) (row : List Bool) → ¬ (HasSuperset sets row) → filter (λ set. not (is_within row set)) sets ≡ sets
none_left_out sets row none =
    filter-all (λ it. not (is_within row it)) sets
    (All-weaker (Contains sets) (λ it. not (is_within row it) ≡ true) (λ it has. go it has (is_within row it) refl) sets (All-contains_itself sets))
  where
    go : (set : List Bool) → Contains sets set → (answer : Bool) → is_within row set ≡ answer → not answer ≡ true
    go set has true is = absurd (none (set, has, Within-from_test row set is))
    go set has false is = refl

-- ---- the same, as the code reads the words

pub part_is : (count place : ℕ) {slice words : List ℕ} {width : ℕ} → slice ≡ words → width ≡ words_for count
    → slice_range slice (place * width) (place * width + width) ≡ words_at words count place
part_is count place same wide = λ i. slice_range (same i) (place * wide i) (place * wide i + wide i)

module _ (words : List ℕ) (count many : ℕ) (packed : ArePacked words count many) (self : Kept) (view : kept count (sets_of words count many) ≡ self) where
  pub count_is_its : count ≡ self.count
  count_is_its = ap (λ (it : Kept). it.count) view

  pub many_is : many ≡ length self.sets
  many_is = sym (length-sets_of words count many) ∙ ap (λ (it : Kept). length it.sets) view

  pub room_for : (place : ℕ) → place < length self.sets → place * words_for count + words_for count ≤ length words
  room_for place below =
      subst (λ n. place * words_for count + words_for count ≤ n) (sym packed.whole)
      (room_at place many (words_for count) (subst (λ n. place < n) (sym many_is) below))

  pub room_read : (place : ℕ) → place < length self.sets → (slice : List ℕ) → slice ≡ words → (width : ℕ) → width ≡ words_for count
      → place * width + width ≤ length slice
  room_read place below slice same width wide =
      subst (λ them. place * width + width ≤ length them) (sym same)
      (subst (λ n. place * n + n ≤ length words) (sym wide) (room_for place below))

  pub words_below : (place : ℕ) → place < length self.sets → AreWordsBelow (words_at words count place) self.count
  words_below place below =
      subst (AreWordsBelow (words_at words count place)) count_is_its (packed.below place (subst (λ n. place < n) (sym many_is) below))

  pub words_set : (place : ℕ) → place < length self.sets → slice_get self.sets place ≡ Some (set_of (words_at words count place) self.count)
  words_set place below =
      subst (λ (it : Kept). slice_get it.sets place ≡ Some (set_of (words_at words count place) it.count)) view
      (slice_get-sets_of words count many place (subst (λ n. place < n) (sym many_is) below))

  module _ (row : List ℕ) (below : AreWordsBelow row self.count) where
    below_here : AreWordsBelow row count
    below_here = subst (AreWordsBelow row) (sym count_is_its) below

    module _ (slice : List ℕ) (slice_is : slice ≡ words) (width : ℕ) (width_is : width ≡ words_for count) where
      pub some_word : 1 ≤ width
      some_word = subst (λ n. 1 ≤ n) (sym width_is) (width_some count)

      pub one_row : length row ≡ width
      one_row = below_here.0 ∙ sym width_is

      pub whole_rows : length slice % width ≡ 0
      whole_rows = (λ i. length (slice_is i) % width_is i) ∙ ap (λ n. n % words_for count) packed.whole ∙ mul-mod_left many (words_for count)

      pub covers_here : ((place : ℕ) → get_or slice place 0 < 2 ^ 64) → (answer : Bool) → IsTrue answer ↔ SomeWithin slice width row
          → IsTrue answer ↔ Covers self.sets (set_of row self.count)
      covers_here fits answer says =
          subst (λ (it : Kept). IsTrue answer ↔ Covers it.sets (set_of row it.count)) view
          (covers_says words count many packed row below_here (subst (λ them. (place : ℕ) → get_or them place 0 < 2 ^ 64) slice_is fits) answer
          (subst (λ wide. IsTrue answer ↔ SomeWithin words wide row) width_is (subst (λ them. IsTrue answer ↔ SomeWithin them width row) slice_is says)))

      pub superset_here : ((place : ℕ) → get_or row place 0 < 2 ^ 64) → (answer : Bool) → IsTrue answer ↔ SomeAround slice width row
          → IsTrue answer ↔ HasSuperset self.sets (set_of row self.count)
      superset_here fits answer says =
          subst (λ (it : Kept). IsTrue answer ↔ HasSuperset it.sets (set_of row it.count)) view
          (superset_says words count many packed row below_here fits answer
          (subst (λ wide. IsTrue answer ↔ SomeAround words wide row) width_is (subst (λ them. IsTrue answer ↔ SomeAround them width row) slice_is says)))

    pub pushed : (after : List ℕ) → after ≡ words ++ row
        → ArePacked after count (many + 1) × (kept count (sets_of after count (many + 1)) ≡ kept self.count (self.sets ++ set_of row self.count ∷ []))
    pushed after is = (
      subst (λ them. ArePacked them count (many + 1)) (sym is) (packed-push words count many packed row below_here),
      ap (λ them. kept count (sets_of them count (many + 1))) is ∙ ap (kept count) (sets_of-push words count many packed row below_here)
          ∙ ap (λ (it : Kept). kept it.count (it.sets ++ set_of row it.count ∷ [])) view,
    )

-- ---- the sets that are no supersets

module _ (self : Kept) (row words : List ℕ) (below : AreWordsBelow row self.count) (here : AreWordsBelow words self.count) (sets : List (List Bool)) (at : ℕ)
    (there : slice_get sets at ≡ Some (set_of words self.count)) where
  abbrev low : List Bool
  low = set_of row self.count

  abbrev high : List Bool
  high = set_of words self.count

  keep_low : Keep row self.count low
  keep_low = record { below = below; is = refl }

  keep_high : Keep words self.count high
  keep_high = record { below = here; is = refl }

  counts : length low ≡ length high
  counts = length-set_of row self.count ∙ sym (length-set_of words self.count)

  -- a superset is passed over
  pub passed_over : LackNoBit row words → IfSome (slice_get sets at) (λ set. self ≡ kept self.count (unless_superset low self.sets set))
  passed_over lack =
      subst (λ it. IfSome it (λ set. self ≡ kept self.count (unless_superset low self.sets set))) (sym there)
      (ap (λ test. kept self.count (cond test self.sets (self.sets ++ high ∷ [])))
      (sym (test_from_Within low high (within_from_words row self.count low keep_low words self.count high keep_high counts lack))))

  -- another set is put at the end
  pub put_behind : ((place : ℕ) → get_or row place 0 < 2 ^ 64) → ¬ (LackNoBit row words) → (after : Kept) → after ≡ kept self.count (self.sets ++ high ∷ [])
      → IfSome (slice_get sets at) (λ set. after ≡ kept self.count (unless_superset low self.sets set))
  put_behind fits lacks after is =
      subst (λ it. IfSome it (λ set. after ≡ kept self.count (unless_superset low self.sets set))) (sym there)
      (is ∙ ap (λ test. kept self.count (cond test self.sets (self.sets ++ high ∷ []))) (sym (go (is_within low high) refl)))
    where
      go : (test : Bool) → is_within low high ≡ test → is_within low high ≡ false
      go true passes =
          absurd (lacks (words_from_within row self.count low keep_low words self.count high keep_high counts fits (Within-from_test low high passes)))
      go false fails = fails

-- one set more of those from which supersets are left out
pub left_next : (sets : List (List Bool)) (count at : ℕ) (row : List ℕ) → at < length sets → (rest after : Kept)
    → rest ≡ kept count (filter (λ set. not (is_within (set_of row count) set)) (take at sets))
    → IfSome (slice_get sets at) (λ set. after ≡ kept rest.count (unless_superset (set_of row rest.count) rest.sets set))
    → after ≡ kept count (filter (λ set. not (is_within (set_of row count) set)) (take (at + 1) sets))
left_next sets count at row below rest after so_far now =
    subst (λ (it : Kept). after ≡ kept it.count (unless_superset (set_of row it.count) it.sets here)) so_far
    (subst (λ it. IfSome it (λ set. after ≡ kept rest.count (unless_superset (set_of row rest.count) rest.sets set))) (slice_get-get_or sets at [] below) now)
    ∙ ap (kept count) (sym one_more)
  where
    here : List Bool
    here = get_or sets at []

    last : (passes : Bool) (them : List (List Bool)) → them ++ cond (not passes) (here ∷ []) [] ≡ cond passes them (them ++ here ∷ [])
    last true them = append-nil them
    last false them = refl

    one_more : filter (λ set. not (is_within (set_of row count) set)) (take (at + 1) sets) ≡ unless_superset (set_of row count)
        (filter (λ set. not (is_within (set_of row count) set)) (take at sets)) here
    one_more =
        ap (filter (λ set. not (is_within (set_of row count) set))) (take_more sets at [] below)
        ∙ filter-append (λ set. not (is_within (set_of row count) set)) (take at sets) (here ∷ [])
        ∙ last (is_within (set_of row count) here) (filter (λ set. not (is_within (set_of row count) set)) (take at sets))
