-- Words compared by lanes.
use Rattle.std.proofs.Common.{◌≡◌, ◌↔◌, ℕ, zero, suc, ◌+◌, ◌-◌, ◌*◌, ◌/◌, ◌%◌, ◌^◌, ◌<◌, ◌≤◌, Bool, true, false, cond, eqb, not, List, [], ◌∷◌, length, get_or}
use Rattle.std.proofs.Common.{map, replicate, take, drop, slice_range, IsTrue, bit_and, refl, sym, subst, ap, ◌∙◌, arith, w64, inl, inr}
use Rattle.std.proofs.Math.Nat.{le-div_iff_mul-le}
use Rattle.std.proofs.lemmas.Bool.{cases_lt, false≢true}
use Rattle.std.proofs.lemmas.Bool.Decides.{Decides-eqb}
use Rattle.std.proofs.lemmas.List.{get_or_past, get_or-drop, get_or-replicate, get_or-take, length-replicate, length-take}
use Rattle.std.proofs.lemmas.Simd.{get_or-chunk, get_or-zip2, length-chunk, length-zip2, mask_l-mod, tops_compared}
use lib.Lanes.{chunk, mask_l, top, zip2}
use Rattle.esto_bits.specs.Words.{IsWordAround, IsWordWithin, LacksNone, LackNoneFrom, LackNoBit, OneOfEight, SomeAround, SomePlaceFrom, SomeWithin}

-- a mask is 0 exactly where no answer is yes
mask_none : (answers : List Bool) → mask_l answers ≡ 0 → (lane : ℕ) → get_or answers lane false ≡ false
mask_none [] none lane = refl
mask_none (true ∷ answers) none lane = absurd (omega (arith, none))
mask_none (false ∷ answers) none zero = refl
mask_none (false ∷ answers) none (suc lane) = mask_none answers (omega (arith, none)) lane

none_mask : (answers : List Bool) → ((lane : ℕ) → get_or answers lane false ≡ false) → mask_l answers ≡ 0
none_mask [] none = refl
none_mask (true ∷ answers) none = absurd (false≢true (sym (none 0)))
none_mask (false ∷ answers) none = let rest = none_mask answers (λ lane. none (suc lane)) in omega (arith, rest)

differ : ℕ → ℕ → Bool
differ one other = not (eqb one other)

not_true : (answer : Bool) → not answer ≡ false → answer ≡ true
not_true true is = refl
not_true false is = absurd (false≢true (sym is))

module _ (small large : List ℕ) (at : ℕ) (room : at + 8 ≤ length small) (large_room : at + 8 ≤ length large) where
  abbrev both : List ℕ
  both = zip2 bit_and (chunk at 8 small) (chunk at 8 large)

  abbrev answers : List Bool
  answers = zip2 (λ one other. not (eqb one other)) both (chunk at 8 small)

  lanes : length (chunk at 8 small) ≡ 8
  lanes = length-chunk at 8 small room

  both_lanes : length both ≡ 8
  both_lanes = length-zip2 bit_and (chunk at 8 small) (chunk at 8 large) (lanes ∙ sym (length-chunk at 8 large large_room)) ∙ lanes

  answers_lanes : length answers ≡ 8
  answers_lanes = length-zip2 (λ one other. not (eqb one other)) both (chunk at 8 small) (both_lanes ∙ sym lanes) ∙ both_lanes

  answer_at : (lane : ℕ) → lane < 8
      → get_or answers lane false ≡ not (eqb (bit_and (get_or small (at + lane) 0) (get_or large (at + lane) 0)) (get_or small (at + lane) 0))
  answer_at lane below =
      get_or-zip2 (λ one other. not (eqb one other)) both (chunk at 8 small) lane 0 0 false (omega (arith, below, both_lanes)) (omega (arith, below, lanes))
      ∙ (λ i. not (eqb (word i) (get_or-chunk at 8 small lane 0 below i)))
    where
      word : get_or both lane 0 ≡ bit_and (get_or small (at + lane) 0) (get_or large (at + lane) 0)
      word =
          get_or-zip2 bit_and (chunk at 8 small) (chunk at 8 large) lane 0 0 0 (omega (arith, below, lanes))
          (omega (arith, below, length-chunk at 8 large large_room))
          ∙ (λ i. bit_and (get_or-chunk at 8 small lane 0 below i) (get_or-chunk at 8 large lane 0 below i))

  pub block_is : (mask : ℕ)
      → mask ≡ mask_l (map (top 63) (zip2 (λ one other. cond (not (eqb one other)) (2 ^ 64 - 1) 0) both (chunk at 8 small))) % 2 ^ 64
      → IsTrue (eqb mask 0) ↔ ((lane : ℕ) → lane < 8 → LacksNone small large (at + lane))
  block_is mask is = (there, back)
    where
      mask_is : mask ≡ mask_l answers
      mask_is =
          is ∙ ap (λ it. mask_l it % 2 ^ 64) (tops_compared w64 (λ one other. not (eqb one other)) both (chunk at 8 small))
          ∙ mask_l-mod answers 64 (omega (arith, answers_lanes))

      there : IsTrue (eqb mask 0) → (lane : ℕ) → lane < 8 → LacksNone small large (at + lane)
      there empty lane below =
          let none = mask_none answers (sym mask_is ∙ (Decides-eqb mask 0).0 empty) lane in
          (Decides-eqb _ _).0 (not_true _ (sym (answer_at lane below) ∙ none))

      back : ((lane : ℕ) → lane < 8 → LacksNone small large (at + lane)) → IsTrue (eqb mask 0)
      back none = (Decides-eqb mask 0).1 (mask_is ∙ none_mask answers by)
        where
          by : (lane : ℕ) → get_or answers lane false ≡ false
          by lane = elim (cases_lt lane 8) [
            | inl below ↦ answer_at lane below ∙ ap not ((Decides-eqb _ _).1 (none lane below))
            | inr past ↦ get_or_past answers lane false (omega (arith, past, answers_lanes))
          ]

-- ---- the blocks, and the words that are left

abbrev pub NoneBelow : List ℕ → List ℕ → ℕ → Type 0
NoneBelow small large at = (place : ℕ) → place < at → LacksNone small large place

module _ (small large : List ℕ) (at : ℕ) where
  pub block_lacks : ¬ ((lane : ℕ) → lane < 8 → LacksNone small large (at + lane)) → IsTrue false ↔ LackNoBit small large
  block_lacks some = (λ no. absurd (false≢true no), λ none. absurd (some (λ lane _. none (at + lane))))

  pub block_lacks_none : ((lane : ℕ) → lane < 8 → LacksNone small large (at + lane)) → NoneBelow small large at → NoneBelow small large (at + 8)
  block_lacks_none none before place below = elim (cases_lt place at) [
    | inl early ↦ before place early
    | inr late ↦
        let here : at + (place - at) ≡ place = omega (arith, late) in
        subst (LacksNone small large) here (none (place - at) (omega (arith, below, late)))
  ]

  pub rest_lacks_none : (answer : Bool) → NoneBelow small large at → IsTrue answer ↔ LackNoneFrom small large at → IsTrue answer ↔ LackNoBit small large
  rest_lacks_none answer before says = (
    λ holds place. elim (cases_lt place at) [ inl early ↦ before place early | inr late ↦ says.0 holds place late ],
    λ none. says.1 (λ place _. none place),
  )

-- where no word from a place up to the end has a bit that the other's word lacks, none from there on has one
pub rest_lacks : (small large : List ℕ) (from at : ℕ) → length small ≡ length large → length small ≤ at
    → ((place : ℕ) → from ≤ place → place < at → LacksNone small large place) → LackNoneFrom small large from
rest_lacks small large from at same end before place after = elim (cases_lt place at) [
  | inl early ↦ before place after early
  | inr late ↦
      let past : get_or small place 0 ≡ 0 = get_or_past small place 0 (omega (arith, end, late)) in
      let large_past : get_or large place 0 ≡ 0 = get_or_past large place 0 (omega (arith, same, end, late)) in
      (λ i. bit_and (past i) (large_past i)) ∙ sym past
]

-- ---- one word in each lane

-- where P holds of no place from one up to the end, it holds of none from there on
pub none_from : (words : List ℕ) (from at : ℕ) (P : ℕ → Type 0) → length words ≤ at → ((place : ℕ) → from ≤ place → place < at → ¬ (P place))
    → IsTrue false ↔ SomePlaceFrom from words P
none_from words from at P end none = (
  λ no. absurd (false≢true no),
  λ (place, after, inside, holds). absurd (none place after (omega (arith, end, inside)) holds),
)

-- a mask that isn't 0 has an answer that is yes
found_in_mask : (answers : List Bool) → (mask_l answers ≡ 0 → ⊥) → (lane : ℕ) × (get_or answers lane false ≡ true)
found_in_mask [] some = absurd (some refl)
found_in_mask (true ∷ answers) some = (0, refl)
found_in_mask (false ∷ answers) some = let rest = found_in_mask answers (λ none. some (omega (arith, none))) in (suc rest.0, rest.1)

not_eqb : (one other : ℕ) → IsTrue (not (eqb one other)) ↔ (one ≡ other → ⊥)
not_eqb one other = go (eqb one other) refl
  where
    go : (answer : Bool) → eqb one other ≡ answer → IsTrue (not answer) ↔ (one ≡ other → ⊥)
    go true is = (λ no. absurd (false≢true no), λ apart. absurd (apart ((Decides-eqb one other).0 is)))
    go false is = (λ _ same. false≢true (sym is ∙ (Decides-eqb one other).1 same), λ _. refl)

-- the lanes of two vectors are compared: some are equal exactly where the mask isn't 0
module _ (one other : List ℕ) (eight : length one ≡ 8) (eight' : length other ≡ 8) where
  abbrev equal : List Bool
  equal = zip2 eqb one other

  equal_lanes : length equal ≡ 8
  equal_lanes = length-zip2 eqb one other (eight ∙ sym eight') ∙ eight

  equal_at : (lane : ℕ) → lane < 8 → get_or equal lane false ≡ eqb (get_or one lane 0) (get_or other lane 0)
  equal_at lane below = get_or-zip2 eqb one other lane 0 0 false (omega (arith, below, eight)) (omega (arith, below, eight'))

  some_lane : (mask : ℕ) → mask ≡ mask_l (map (top 63) (zip2 (λ left right. cond (eqb left right) (2 ^ 64 - 1) 0) one other)) % 2 ^ 64
      → IsTrue (not (eqb mask 0)) ↔ ((lane : ℕ) × (lane < 8) × (get_or one lane 0 ≡ get_or other lane 0))
  some_lane mask is = (there, back)
    where
      mask_is : mask ≡ mask_l equal
      mask_is = is ∙ ap (λ it. mask_l it % 2 ^ 64) (tops_compared w64 eqb one other) ∙ mask_l-mod equal 64 (omega (arith, equal_lanes))

      there : IsTrue (not (eqb mask 0)) → (lane : ℕ) × (lane < 8) × (get_or one lane 0 ≡ get_or other lane 0)
      there some =
          let found = found_in_mask equal (λ none. (not_eqb mask 0).0 some (mask_is ∙ none)) in
          elim (cases_lt found.0 8) [
            | inl below ↦ (found.0, below, (Decides-eqb _ _).0 (sym (equal_at found.0 below) ∙ found.1))
            | inr past ↦ absurd (false≢true (sym (get_or_past equal found.0 false (omega (arith, past, equal_lanes))) ∙ found.1))
          ]

      back : (lane : ℕ) × (lane < 8) × (get_or one lane 0 ≡ get_or other lane 0) → IsTrue (not (eqb mask 0))
      back (lane, below, same) =
          (not_eqb mask 0).1
          (λ none. false≢true (sym (mask_none equal (sym mask_is ∙ none) lane) ∙ equal_at lane below ∙ (Decides-eqb _ _).1 same))

module _ (words : List ℕ) (at word : ℕ) (room : at + 8 ≤ length words) where
  abbrev block : List ℕ
  block = chunk at 8 words

  abbrev each : List ℕ
  each = replicate 8 word

  block_lanes : length block ≡ 8
  block_lanes = length-chunk at 8 words room

  each_lanes : length each ≡ 8
  each_lanes = length-replicate 8 word

  in_block : (lane : ℕ) → lane < 8 → get_or block lane 0 ≡ get_or words (at + lane) 0
  in_block lane below = get_or-chunk at 8 words lane 0 below

  in_each : (lane : ℕ) → lane < 8 → get_or each lane 0 ≡ word
  in_each lane below = get_or-replicate 8 lane word 0 below

  pub within_is : (mask : ℕ)
      → mask ≡ mask_l (map (top 63) (zip2 (λ left right. cond (eqb left right) (2 ^ 64 - 1) 0) (zip2 bit_and block each) block)) % 2 ^ 64
      → IsTrue (not (eqb mask 0)) ↔ OneOfEight at (IsWordWithin words word)
  within_is mask is = (
    λ some. let found = compared.0 some in (found.0, found.1, sym (joined found.0 found.1) ∙ found.2 ∙ in_block found.0 found.1),
    λ (lane, below, holds). compared.1 (lane, below, joined lane below ∙ holds ∙ sym (in_block lane below)),
  )
    where
      joined_lanes : length (zip2 bit_and block each) ≡ 8
      joined_lanes = length-zip2 bit_and block each (block_lanes ∙ sym each_lanes) ∙ block_lanes

      compared : IsTrue (not (eqb mask 0)) ↔ ((lane : ℕ) × (lane < 8) × (get_or (zip2 bit_and block each) lane 0 ≡ get_or block lane 0))
      compared = some_lane (zip2 bit_and block each) block joined_lanes block_lanes mask is

      joined : (lane : ℕ) → lane < 8 → get_or (zip2 bit_and block each) lane 0 ≡ bit_and (get_or words (at + lane) 0) word
      joined lane below =
          get_or-zip2 bit_and block each lane 0 0 0 (omega (arith, below, block_lanes)) (omega (arith, below, each_lanes))
          ∙ (λ i. bit_and (in_block lane below i) (in_each lane below i))

  pub around_is : (mask : ℕ)
      → mask ≡ mask_l (map (top 63) (zip2 (λ left right. cond (eqb left right) (2 ^ 64 - 1) 0) (zip2 bit_and each block) each)) % 2 ^ 64
      → IsTrue (not (eqb mask 0)) ↔ OneOfEight at (IsWordAround words word)
  around_is mask is = (
    λ some. let found = compared.0 some in (found.0, found.1, sym (joined found.0 found.1) ∙ found.2 ∙ in_each found.0 found.1),
    λ (lane, below, holds). compared.1 (lane, below, joined lane below ∙ holds ∙ sym (in_each lane below)),
  )
    where
      joined_lanes : length (zip2 bit_and each block) ≡ 8
      joined_lanes = length-zip2 bit_and each block (each_lanes ∙ sym block_lanes) ∙ each_lanes

      compared : IsTrue (not (eqb mask 0)) ↔ ((lane : ℕ) × (lane < 8) × (get_or (zip2 bit_and each block) lane 0 ≡ get_or each lane 0))
      compared = some_lane (zip2 bit_and each block) each joined_lanes each_lanes mask is

      joined : (lane : ℕ) → lane < 8 → get_or (zip2 bit_and each block) lane 0 ≡ bit_and word (get_or words (at + lane) 0)
      joined lane below =
          get_or-zip2 bit_and each block lane 0 0 0 (omega (arith, below, each_lanes)) (omega (arith, below, block_lanes))
          ∙ (λ i. bit_and (in_each lane below i) (in_block lane below i))

-- ---- a walk over words by blocks

-- P holds of no place before this one
abbrev pub NowhereBelow : ℕ → (ℕ → Type 0) → Type 0
NowhereBelow at P = (place : ℕ) → place < at → ¬ (P place)

module _ (words : List ℕ) (P : ℕ → Type 0) (at : ℕ) where
  pub found_in_block : at + 8 ≤ length words → OneOfEight at P → SomePlaceFrom 0 words P
  found_in_block room (lane, below, holds) = (at + lane, omega arith, omega (arith, below, room), holds)

  pub block_passed : ¬ (OneOfEight at P) → NowhereBelow at P → NowhereBelow (at + 8) P
  block_passed none before place below = elim (cases_lt place at) [
    | inl early ↦ before place early
    | inr late ↦ λ holds.
        let here : at + (place - at) ≡ place = omega (arith, late) in
        none (place - at, omega (arith, below, late), subst P (sym here) holds)
  ]

  pub rest_says : (answer : Bool) → NowhereBelow at P → IsTrue answer ↔ SomePlaceFrom at words P → IsTrue answer ↔ SomePlaceFrom 0 words P
  rest_says answer before says = (
    λ holds. let found = says.0 holds in (found.0, omega arith, found.2, found.3),
    λ (place, _, inside, holds). elim (cases_lt place at) [
      | inl early ↦ absurd (before place early holds)
      | inr late ↦ says.1 (place, late, inside, holds)
    ],
  )

-- ---- groups of one word

-- a part of one item reads that item, and nothing behind it
part_first : (items : List ℕ) (from many : ℕ) → many ≡ 1 → get_or (take many (drop from items)) 0 0 ≡ get_or items from 0
part_first items from many one =
    get_or-take many (drop from items) 0 0 (omega (arith, one)) ∙ get_or-drop from items 0 0
    ∙ ap (λ place. get_or items place 0) (let here : from + 0 ≡ from = omega arith in here)

part_rest : (items : List ℕ) (from many place : ℕ) → many ≡ 1 → get_or (take many (drop from items)) (suc place) 0 ≡ 0
part_rest items from many place one =
    get_or_past (take many (drop from items)) (suc place) 0 (omega (arith, one, length-take many (drop from items)))

module _ (words row : List ℕ) (single : length row ≡ 1) (group : ℕ) where
  abbrev part : List ℕ
  part = slice_range words (group * 1) (group * 1 + 1)

  part_word : get_or part 0 0 ≡ get_or words group 0
  part_word =
      part_first words (group * 1) ((group * 1 + 1) - group * 1) (omega arith)
      ∙ ap (λ place. get_or words place 0) (let here : group * 1 ≡ group = omega arith in here)

  part_none : (place : ℕ) → get_or part (suc place) 0 ≡ 0
  part_none place = part_rest words (group * 1) ((group * 1 + 1) - group * 1) place (omega arith)

  row_none : (place : ℕ) → get_or row (suc place) 0 ≡ 0
  row_none place = get_or_past row (suc place) 0 (omega (arith, single))

  word_within_is : IsWordWithin words (get_or row 0 0) group ↔ LackNoBit part row
  word_within_is = (there, λ lack. ap (λ word. bit_and word (get_or row 0 0)) (sym part_word) ∙ lack 0 ∙ part_word)
    where
      there : IsWordWithin words (get_or row 0 0) group → LackNoBit part row
      there holds zero = ap (λ word. bit_and word (get_or row 0 0)) part_word ∙ holds ∙ sym part_word
      there holds (suc place) = (λ i. bit_and (part_none place i) (row_none place i)) ∙ sym (part_none place)

  word_around_is : IsWordAround words (get_or row 0 0) group ↔ LackNoBit row part
  word_around_is = (there, λ lack. ap (bit_and (get_or row 0 0)) (sym part_word) ∙ lack 0)
    where
      there : IsWordAround words (get_or row 0 0) group → LackNoBit row part
      there holds zero = ap (bit_and (get_or row 0 0)) part_word ∙ holds
      there holds (suc place) = (λ i. bit_and (row_none place i) (part_none place i)) ∙ sym (row_none place)

module _ (words row : List ℕ) (width : ℕ) (one : width ≡ 1) (long : length row ≡ width) (answer : Bool) where
  pub one_word_within : IsTrue answer ↔ SomePlaceFrom 0 words (IsWordWithin words (get_or row 0 0)) → IsTrue answer ↔ SomeWithin words width row
  one_word_within says = subst (λ wide. IsTrue answer ↔ SomeWithin words wide row) (sym one) (
    λ holds. let found = says.0 holds in (found.0, omega (arith, found.2), (word_within_is words row (long ∙ one) found.0).0 found.3),
    λ (group, room, lack). says.1 (group, omega arith, omega (arith, room), (word_within_is words row (long ∙ one) group).1 lack),
  )

  pub one_word_around : IsTrue answer ↔ SomePlaceFrom 0 words (IsWordAround words (get_or row 0 0)) → IsTrue answer ↔ SomeAround words width row
  one_word_around says = subst (λ wide. IsTrue answer ↔ SomeAround words wide row) (sym one) (
    λ holds. let found = says.0 holds in (found.0, omega (arith, found.2), (word_around_is words row (long ∙ one) found.0).0 found.3),
    λ (group, room, lack). says.1 (group, omega arith, omega (arith, room), (word_around_is words row (long ∙ one) group).1 lack),
  )

-- ---- a walk over groups of words

-- P holds of no group of so many words before this one
abbrev pub NoGroupBelow : List ℕ → ℕ → (List ℕ → Type 0) → ℕ → Type 0
NoGroupBelow words width P group = (earlier : ℕ) → earlier < group → ¬ (P (slice_range words (earlier * width) (earlier * width + width)))

-- P holds of some group of so many words
abbrev pub SomeGroup : List ℕ → ℕ → (List ℕ → Type 0) → Type 0
SomeGroup words width P = (group : ℕ) × (group * width + width ≤ length words) × P (slice_range words (group * width) (group * width + width))

module _ (words : List ℕ) (width : ℕ) (some : 1 ≤ width) (P : List ℕ → Type 0) where
  -- a group stands within the words exactly where its number is below how many there are
  pub group_fits : (group : ℕ) → group < length words / width → group * width + width ≤ length words
  group_fits group below = let fits = (le-div_iff_mul-le {x = group + 1} {y = length words} some).0 (omega (arith, below)) in omega (arith, fits)

  group_below : (group : ℕ) → group * width + width ≤ length words → group < length words / width
  group_below group room = let below = (le-div_iff_mul-le {x = group + 1} {y = length words} some).1 (omega (arith, room)) in omega (arith, below)

  pub group_found : (group : ℕ) → group < length words / width → P (slice_range words (group * width) (group * width + width))
      → IsTrue true ↔ SomeGroup words width P
  group_found group below holds = (λ _. (group, group_fits group below, holds), λ _. refl)

  pub group_passed : (group : ℕ) → ¬ (P (slice_range words (group * width) (group * width + width))) → NoGroupBelow words width P group
      → NoGroupBelow words width P (group + 1)
  group_passed group none before earlier below = elim (cases_lt earlier group) [
    | inl early ↦ before earlier early
    | inr late ↦ λ holds.
        let here : earlier ≡ group = omega (arith, below, late) in
        none (subst (λ it. P (slice_range words (it * width) (it * width + width))) here holds)
  ]

  pub no_group : (groups : ℕ) → length words / width ≤ groups → NoGroupBelow words width P groups → IsTrue false ↔ SomeGroup words width P
  no_group groups all none = (
    λ no. absurd (false≢true no),
    λ (group, room, holds). absurd (none group (let below = group_below group room in omega (arith, below, all)) holds),
  )
