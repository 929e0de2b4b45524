-- Pages: what is on them, and that a search by pages finds what a search through all sets does.
use Rattle.std.proofs.Common.{◌≡◌, ◌↔◌, ℕ, ◌+◌, ◌-◌, ◌*◌, ◌%◌, ◌<◌, ◌≤◌, Bool, List, [], ◌∷◌, ◌++◌, length, get_or, take, drop, slice_range}
use Rattle.std.proofs.Common.{IsTrue, bit_and, bit_or, sym, ap, ◌∙◌, subst, inl, inr, arith}
use lib.Bits.{and_comm, and_self, or_comm}
use native.Mathlib.Nat.{add-mul-mod_self_right}
use Rattle.std.proofs.Math.Nat.{mul-le-mul_right, mul-mod_left}
use Rattle.std.proofs.lemmas.Bool.{cases_lt}
use Rattle.std.proofs.lemmas.List.{drop-drop, drop-take, get_or_append_left, get_or_push, get_or-drop, get_or-take, length-append, length-drop, length-take}
use Rattle.std.proofs.lemmas.List.{take-take}
use Rattle.std.proofs.lemmas.Nat.{and_assoc, and_or_self}
use Rattle.esto_bits.specs.Pages.{ArePagesOf, HasAround, HasWithin, IsOnPage, IsPageOf, SomeOnPage}
use Rattle.esto_bits.specs.declared.pages.Page.{Page}
use Rattle.esto_bits.proofs.LaneLemmas.{NoGroupBelow, SomeGroup}

-- ---- bits of words

-- the one word has no bit that the other lacks
abbrev Lacks : ℕ → ℕ → Type 0
Lacks one other = bit_and one other ≡ one

lacks_then : (one other last : ℕ) → Lacks one other → Lacks other last → Lacks one last
lacks_then one other last first second =
    ap (λ it. bit_and it last) (sym first) ∙ and_assoc last one other ∙ ap (bit_and one) second ∙ first

both_first : (one other : ℕ) → Lacks (bit_and one other) one
both_first one other =
    and_assoc one one other ∙ ap (bit_and one) (and_comm other one) ∙ sym (and_assoc other one one) ∙ ap (λ it. bit_and it other) (and_self one)

both_second : (one other : ℕ) → Lacks (bit_and one other) other
both_second one other = and_assoc other one other ∙ ap (bit_and one) (and_self other)

either_second : (one other : ℕ) → Lacks other (bit_or one other)
either_second one other = and_comm other (bit_or one other) ∙ and_or_self other one

either_first : (one other : ℕ) → Lacks one (bit_or one other)
either_first one other = ap (bit_and one) (or_comm one other) ∙ either_second other one

-- ---- what is on a page

-- the first words of the groups from one on, before another, are on the page
abbrev pub OnPage : List ℕ → ℕ → ℕ → ℕ → Page → Type 0
OnPage rows width from to page = (group : ℕ) → from ≤ group → group < to → IsOnPage page (get_or rows (group * width) 0)

pub page_turn : (rows : List ℕ) (width from at all any word : ℕ) → word ≡ get_or rows (at * width) 0
    → OnPage rows width from at (record { all = all; any = any })
    → OnPage rows width from (at + 1) (record { all = bit_and all word; any = bit_or any word })
page_turn rows width from at all any word is so_far group above below = elim (cases_lt group at) [
  | inl early ↦
      let earlier = so_far group above early in (
        lacks_then (bit_and all word) all (get_or rows (group * width) 0) (both_first all word) earlier.0,
        lacks_then (get_or rows (group * width) 0) any (bit_or any word) earlier.1 (either_first any word),
      )
  | inr late ↦
      let last : at ≡ group = omega (arith, below, late) in
      let same : word ≡ get_or rows (group * width) 0 = is ∙ ap (λ it. get_or rows (it * width) 0) last in (
        subst (Lacks (bit_and all word)) same (both_second all word),
        subst (λ it. Lacks it (bit_or any word)) same (either_second any word),
      )
]

-- ---- parts of parts

part_of_part : (rows : List ℕ) (from to at size : ℕ) → from + at + size ≤ to
    → slice_range (slice_range rows from to) at (at + size) ≡ slice_range rows (from + at) (from + at + size)
part_of_part rows from to at size room =
    let rest = (to - from) - at in
    let whole : to - from ≡ at + rest = omega (arith, room) in
    ap (λ n. take ((at + size) - at) (drop at (take n (drop from rows)))) whole
    ∙ ap (take ((at + size) - at)) (drop-take at rest (drop from rows)) ∙ take-take ((at + size) - at) rest (drop at (drop from rows)) (omega (arith, room))
    ∙ ap (take ((at + size) - at)) (drop-drop at from rows)
    ∙ ap (λ n. take n (drop (from + at) rows)) (let same : (at + size) - at ≡ (from + at + size) - (from + at) = omega arith in same)

length-part : (rows : List ℕ) (from to : ℕ) → to ≤ length rows → length (slice_range rows from to) ≡ to - from
length-part rows from to room = omega (arith, room, length-take (to - from) (drop from rows), length-drop from rows)

module _ (rows : List ℕ) (width : ℕ) (some : 1 ≤ width) (P : List ℕ → Type 0) where
  abbrev group_at : ℕ → List ℕ
  group_at group = slice_range rows (group * width) (group * width + width)

  group_of_part : (base to group : ℕ) → (base + group) * width + width ≤ to
      → slice_range (slice_range rows (base * width) to) (group * width) (group * width + width) ≡ group_at (base + group)
  group_of_part base to group room =
      let sum : base * width + group * width ≡ (base + group) * width = omega arith in
      part_of_part rows (base * width) to (group * width) width (omega (arith, room, sum)) ∙ ap (λ from. slice_range rows from (from + width)) sum

  -- a group from one on, before the end
  abbrev SomeFrom : ℕ → ℕ → Type 0
  SomeFrom base to = (group : ℕ) × (base ≤ group) × (group * width + width ≤ to) × P (group_at group)

  module _ (base to : ℕ) (room : to ≤ length rows) (answer : Bool)
      (says : IsTrue answer ↔ SomeGroup (slice_range rows (base * width) to) width P) where
    some_in_part : IsTrue answer → base * width ≤ to → SomeFrom base to
    some_in_part holds start =
        let found = says.0 holds in
        let within : (base + found.0) * width + width ≤ to =
        omega (arith, found.1, length-part rows (base * width) to room, start) in
        (base + found.0, omega arith, within, subst P (group_of_part base to found.0 within) found.2)

    part_has_some : SomeFrom base to → IsTrue answer
    part_has_some (group, above, within, holds) =
        let rest = group - base in
        let same : base + rest ≡ group = omega (arith, above) in
        let inside : (base + rest) * width + width ≤ to = subst (λ it. it * width + width ≤ to) (sym same) within in
        says.1 (
          rest,
          omega (arith, inside, length-part rows (base * width) to room),
          subst P (sym (group_of_part base to rest inside ∙ ap group_at same)) holds,
        )

  -- a page is looked through
  pub page_says : (place size : ℕ) (part : List ℕ) → (place * 64 + 64) * width ≤ length rows → size ≡ 64 * width
      → part ≡ slice_range rows (place * size) (place * size + size) → (answer : Bool) → IsTrue answer ↔ SomeGroup part width P
      → IsTrue answer ↔ SomeOnPage rows width place P
  page_says place size part room wide is answer says = (
    λ holds. let (group, above, within, has) = some_in_part (place * 64) to room answer here holds (omega arith) in
        (group, above, before group within, has),
    λ (group, above, below, has). part_has_some (place * 64) to room answer here (
      group,
      above,
      (let most : (group + 1) * width ≤ (place * 64 + 64) * width = mul-le-mul_right width (omega (arith, below)) in omega (arith, most)),
      has,
    ),
  )
    where
      to : ℕ
      to = (place * 64 + 64) * width

      from_is : place * size ≡ place * 64 * width
      from_is = ap (λ it. place * it) wide ∙ (let same : place * (64 * width) ≡ place * 64 * width = omega arith in same)

      to_is : place * size + size ≡ to
      to_is = (λ i. from_is i + wide i) ∙ (let same : place * 64 * width + 64 * width ≡ (place * 64 + 64) * width = omega arith in same)

      here : IsTrue answer ↔ SomeGroup (slice_range rows (place * 64 * width) to) width P
      here = subst (λ them. IsTrue answer ↔ SomeGroup them width P) (is ∙ (λ i. slice_range rows (from_is i) (to_is i))) says

      before : (group : ℕ) → group * width + width ≤ to → group < place * 64 + 64
      before group within = elim (cases_lt group (place * 64 + 64)) [
        | inl below ↦ below
        | inr past ↦ absurd (let most : (place * 64 + 64) * width ≤ group * width = mul-le-mul_right width past in omega (arith, most, within, some))
      ]

  -- ---- a walk over the pages

  pub page_passed : (place : ℕ) → ¬ (SomeOnPage rows width place P) → NoGroupBelow rows width P (place * 64)
      → NoGroupBelow rows width P ((place + 1) * 64)
  page_passed place none before group below = elim (cases_lt group (place * 64)) [
    | inl early ↦ before group early
    | inr late ↦ λ holds. none (group, late, omega (arith, below), holds)
  ]

  pub page_found : (place pages : ℕ) → place < pages → pages * 64 * width ≤ length rows → SomeOnPage rows width place P
      → SomeGroup rows width P
  page_found place pages below room (group, above, within, holds) =
      let most : (group + 1) * width ≤ pages * 64 * width = mul-le-mul_right width (omega (arith, below, within)) in
      (group, omega (arith, most, room), holds)

  pub room_of_page : (place pages : ℕ) → place < pages → pages * 64 * width ≤ length rows → (place * 64 + 64) * width ≤ length rows
  room_of_page place pages below room =
      let most : (place * 64 + 64) * width ≤ pages * 64 * width = mul-le-mul_right width (omega (arith, below)) in omega (arith, most, room)

  pub rest_says : (pages place : ℕ) (rest : List ℕ) → pages ≤ place → pages * 64 * width ≤ length rows
      → NoGroupBelow rows width P (place * 64) → rest ≡ slice_range rows (pages * 64 * width) (length rows) → (answer : Bool)
      → IsTrue answer ↔ SomeGroup rest width P → IsTrue answer ↔ SomeGroup rows width P
  rest_says pages place rest past room none is answer says = (
    λ holds. let (group, _, within, has) = some_in_part (pages * 64) (length rows) (omega arith) answer here holds room in (group, within, has),
    λ (group, within, has). elim (cases_lt group (pages * 64)) [
      | inl early ↦ absurd (none group (omega (arith, early, past)) has)
      | inr late ↦ part_has_some (pages * 64) (length rows) (omega arith) answer here (group, late, within, has)
    ],
  )
    where
      here : IsTrue answer ↔ SomeGroup (slice_range rows (pages * 64 * width) (length rows)) width P
      here = subst (λ them. IsTrue answer ↔ SomeGroup them width P) is says

  pub rest_whole : (pages : ℕ) (rest : List ℕ) → pages * 64 * width ≤ length rows → length rows % width ≡ 0
      → rest ≡ slice_range rows (pages * 64 * width) (length rows) → length rest % width ≡ 0
  rest_whole pages rest room whole is =
      ap (λ them. length them % width) is ∙ ap (λ n. n % width) (length-part rows (pages * 64 * width) (length rows) (omega arith))
      ∙ sym (add-mul-mod_self_right (length rows - pages * 64 * width) (pages * 64) width)
      ∙ ap (λ n. n % width) (let back : (length rows - pages * 64 * width) + pages * 64 * width ≡ length rows = omega (arith, room) in back) ∙ whole

  pub page_whole : (place size : ℕ) (part : List ℕ) → (place * 64 + 64) * width ≤ length rows → size ≡ 64 * width
      → part ≡ slice_range rows (place * size) (place * size + size) → length part % width ≡ 0
  page_whole place size part room wide is =
      ap (λ them. length them % width) is
      ∙ ap (λ n. n % width) (length-part rows (place * size) (place * size + size)
      (subst (λ it. place * it + it ≤ length rows) (sym wide) (omega (arith, room)))
      ∙ (let rest : (place * size + size) - place * size ≡ size = omega arith in rest) ∙ wide)
      ∙ mul-mod_left 64 width

-- ---- pages that are passed over

module _ (rows : List ℕ) (width : ℕ) (some : 1 ≤ width) (row : List ℕ) (place : ℕ) (page : Page) (on : IsPageOf rows width place page) where
  first_word : (group : ℕ) → get_or (slice_range rows (group * width) (group * width + width)) 0 0 ≡ get_or rows (group * width) 0
  first_word group =
      get_or-take ((group * width + width) - group * width) (drop (group * width) rows) 0 0 (omega (arith, some))
      ∙ get_or-drop (group * width) rows 0 0 ∙ ap (λ at. get_or rows at 0) (let same : group * width + 0 ≡ group * width = omega arith in same)

  pub none_within : ¬ (bit_and page.all (get_or row 0 0) ≡ page.all) → ¬ (SomeOnPage rows width place (HasWithin row))
  none_within lacks (group, above, below, holds) =
      lacks (lacks_then page.all (get_or rows (group * width) 0) (get_or row 0 0) (on group above below).0
      (subst (λ word. Lacks word (get_or row 0 0)) (first_word group) (holds 0)))

  pub none_around : ¬ (bit_and (get_or row 0 0) page.any ≡ get_or row 0 0) → ¬ (SomeOnPage rows width place (HasAround row))
  none_around lacks (group, above, below, holds) =
      lacks (lacks_then (get_or row 0 0) (get_or rows (group * width) 0) page.any (subst (Lacks (get_or row 0 0)) (first_word group) (holds 0))
      (on group above below).1)

-- ---- pages of more words

pub pages_behind : (rows more : List ℕ) (width : ℕ) (pages : List Page) → 1 ≤ width → ArePagesOf rows width pages → ArePagesOf (rows ++ more) width pages
pages_behind rows more width pages some are = record {
  whole = omega (arith, are.whole, length-append rows more);
  each = λ place other below group above within.
      let most : (group + 1) * width ≤ length pages * 64 * width = mul-le-mul_right width (omega (arith, below, within)) in
      subst (IsOnPage (get_or pages place other)) (sym (get_or_append_left rows more 0 (group * width) (omega (arith, most, are.whole, some))))
      (are.each place other below group above within);
}

pub no_pages : (rows : List ℕ) (width : ℕ) → ArePagesOf rows width []
no_pages rows width = record { whole = omega arith; each = λ place other below. absurd (omega (arith, below)) }

pub page_more : (rows : List ℕ) (width place : ℕ) (pages : List Page) (page : Page) → place ≡ length pages → ArePagesOf rows width pages
    → IsPageOf rows width place page → (place * 64 + 64) * width ≤ length rows → ArePagesOf rows width (pages ++ page ∷ [])
page_more rows width place pages page last are is room = record {
  whole = subst (λ n. n * 64 * width ≤ length rows) (sym (length-append pages (page ∷ [])))
      (let same : (place * 64 + 64) * width ≡ (length pages + 1) * 64 * width = ap (λ n. (n * 64 + 64) * width) last
      ∙ (let it : (length pages * 64 + 64) * width ≡ (length pages + 1) * 64 * width = omega arith in it) in subst (λ n. n ≤ length rows) same room);
  each = λ at other below. elim (cases_lt at (length pages)) [
    | inl early ↦ subst (IsPageOf rows width at) (sym (get_or_append_left pages (page ∷ []) other at early)) (are.each at other early)
    | inr late ↦
        let end : length pages ≡ at = omega (arith, late, below, length-append pages (page ∷ [])) in
        subst (IsPageOf rows width at) (sym (get_or_push pages page other at end)) (subst (λ it. IsPageOf rows width it page) (last ∙ end) is)
  ];
}

-- ---- the same, as the code reads the words and the pages

module _ {rows words : List ℕ} {width wide : ℕ} {pages noted : List Page} (same : rows ≡ words) (wide_is : width ≡ wide) (noted_is : pages ≡ noted) where
  pub pages_here : ArePagesOf words wide noted → ArePagesOf rows width pages
  pages_here are =
      subst (λ them. ArePagesOf them width pages) (sym same)
      (subst (λ it. ArePagesOf words it pages) (sym wide_is) (subst (ArePagesOf words wide) (sym noted_is) are))

-- there are no more pages than sets fill
pub pages_within : (words : List ℕ) (width many : ℕ) (pages : List Page) → 1 ≤ width → length words ≡ many * width → ArePagesOf words width pages
    → length pages * 64 ≤ many
pages_within words width many pages some whole are = elim (cases_lt many (length pages * 64)) [
  | inl more ↦ absurd
      (let most : (many + 1) * width ≤ length pages * 64 * width = mul-le-mul_right width (omega (arith, more)) in omega (arith, most, are.whole, whole, some))
  | inr enough ↦ enough
]
