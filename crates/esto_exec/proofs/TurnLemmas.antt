-- A turn: one more get is joined.
use Rattle.std.proofs.Common.{◌≡◌, ◌⊎◌, inl, inr, ℕ, zero, suc, ◌+◌, ◌-◌, ◌<◌, ◌≤◌, ◌==◌, ◌&&◌, ◌||◌, Bool, true, false, cond, List, [], ◌∷◌, ◌++◌, map}
use Rattle.std.proofs.Common.{flat_map}
use Rattle.std.proofs.Common.{length, take, Option, Some, None, slice_get, Contains, refl, sym, ap, ◌∙◌, subst, arith}
use Rattle.std.proofs.lemmas.Bool.Decides.{nat_tests}
use Rattle.std.proofs.lemmas.Bool.{cases_order}
use Rattle.std.proofs.lemmas.List.{append_assoc, length-append, length-map}
use Rattle.std.proofs.lemmas.List.Elements.{Contains-append_left, Contains-append_right, Contains-append_cases, Contains-push, Contains-push_cases}
use Rattle.std.proofs.lemmas.Option.{same_Some, none-some, slice_get_past}
use Rattle.esto_term.proofs.ListLemmas.{Contains-nil, Contains-one, Contains-head, Contains-rest, Contains-cases, Contains-flat, Contains-flat_from}
use Rattle.esto_steps.specs.declared.steps.Get.{Get}
use Rattle.esto_steps.specs.declared.steps.Link.{Link}
use Rattle.esto_steps.specs.declared.steps.Source.{Source}
use Rattle.esto_steps.specs.Meaning.{code_at}
use Rattle.esto_exec.specs.Slots.{slot_at, side_at, side_of, IsKnown}
use Rattle.esto_exec.specs.Turns.{same_slot, is_among, kept_slots, side_slots, input_slots, is_decided, equation_slots, head_slots, needed_slots}
use Rattle.esto_exec.specs.Turns.{AreNeeded, place_in, is_in, is_known, source_in, slots_from, AreSlots}
use Rattle.esto_exec.specs.declared.slots.Slot.{Slot}
use Rattle.esto_exec.specs.declared.slots.Equation.{Equation}
use Rattle.esto_exec.specs.declared.slots.Side.{Side}
use Rattle.esto_exec.specs.declared.slots.Side.TheVariants.{Constant, Held, Nothing}

-- ---- tests

pub equal_numbers : (n m : ℕ) → (n == m) ≡ true → n ≡ m
equal_numbers n m is = grind (arith, nat_tests)

pub other_numbers : (n m : ℕ) → (n == m) ≡ false → n ≡ m → ⊥
other_numbers n m is same = grind (arith, nat_tests)

pub numbers_equal : (n m : ℕ) → n ≡ m → (n == m) ≡ true
numbers_equal n m is = grind (arith, nat_tests)

pub both_true : (a b : Bool) → (a && b) ≡ true → (a ≡ true) × (b ≡ true)
both_true true true is = (refl, refl)
both_true true false is = absurd (cc)
both_true false b is = absurd (cc)

pub slots_same : (slot other : Slot) → same_slot slot other ≡ true → slot ≡ other
slots_same slot other is =
    let parts = both_true (slot.get == other.get) (slot.column == other.column) is in
    λ i. record { get = equal_numbers slot.get other.get parts.0 i; column = equal_numbers slot.column other.column parts.1 i }

pub same_slots : (slot other : Slot) → slot ≡ other → same_slot slot other ≡ true
same_slots slot other is =
    let gets = numbers_equal slot.get other.get (ap (λ (it : Slot). it.get) is) in
    let columns = numbers_equal slot.column other.column (ap (λ (it : Slot). it.column) is) in λ i. gets i && columns i

pub in_is : (numbers : List ℕ) (number : ℕ) → is_in numbers number ≡ true → Contains numbers number
in_is [] number is = absurd (cc)
in_is (first ∷ rest) number is = by (λ later. in_is rest number later) (first == number) refl is
  where
    by : (is_in rest number ≡ true → Contains rest number) → (answer : Bool) → (first == number) ≡ answer → (answer || is_in rest number) ≡ true
        → Contains (first ∷ rest) number
    by later true same one = subst (Contains (first ∷ rest)) (equal_numbers first number same) (Contains-head first rest)
    by later false differs one = Contains-rest first rest number (later one)

pub is_in-from : (numbers : List ℕ) (number : ℕ) → Contains numbers number → is_in numbers number ≡ true
is_in-from [] number inside = absurd (Contains-nil number inside)
is_in-from (first ∷ rest) number inside = elim (Contains-cases first rest number inside) [
  | inl is ↦ ap (λ it. it || is_in rest number) (numbers_equal first number is)
  | inr later ↦ by (first == number) (is_in-from rest number later)
]
  where
    by : (answer : Bool) → is_in rest number ≡ true → (answer || is_in rest number) ≡ true
    by true is = refl
    by false is = is

pub known_is : (done : List ℕ) (side : Side) → is_known done side ≡ true → IsKnown done side
known_is done (Constant code) is = _
known_is done (Held slot) is = in_is done slot.get is
known_is done Nothing is = _

pub is_known-from : (done : List ℕ) (side : Side) → IsKnown done side → is_known done side ≡ true
is_known-from done (Constant code) is = refl
is_known-from done (Held slot) is = is_in-from done slot.get is
is_known-from done Nothing is = refl

pub known_more : (done : List ℕ) (number : ℕ) (side : Side) → IsKnown done side → IsKnown (done ++ number ∷ []) side
known_more done number (Constant code) known = _
known_more done number (Held slot) known = Contains-append_left done (number ∷ []) slot.get known
known_more done number Nothing known = _

-- ---- what is source_in is read

-- the rows of the gets that are done are as long as the arities say
abbrev pub AreDoneLong : List ℕ → List ℕ → (ℕ → List ℕ) → Type 0
AreDoneLong arities done choice = (number : ℕ) → Contains done number → (arity : ℕ) × (slice_get arities number ≡ Some arity) × (length (choice number) ≡ arity)

map_cons : {X Y : Type 0} (x : X) (xs : List X) (y : Y) (ys : List Y) (f : X → Option Y) → (f x ∷ map f xs) ≡ (Some y ∷ map Some ys)
    → (f x ≡ Some y) × (map f xs ≡ map Some ys)
map_cons x xs y ys f is = (cc, cc)

module _ (choice : ℕ → List ℕ) where
  pub parts_long : (places : List Slot) (cells : List ℕ) → map (slot_at choice) places ≡ map Some cells → length cells ≡ length places
  parts_long places cells is = sym (length-map cells Some) ∙ sym (ap length is) ∙ length-map places (slot_at choice)

  place_reads : (places : List Slot) (cells : List ℕ) (slot : Slot) → map (slot_at choice) places ≡ map Some cells
      → (slice_get cells (place_in places slot) ≡ slot_at choice slot)
      ⊎ ((slice_get cells (place_in places slot) ≡ None) × (Contains places slot → ⊥))
  place_reads [] [] slot is = inr (refl, Contains-nil slot)
  place_reads [] (cell ∷ cells) slot is = absurd (cc)
  place_reads (first ∷ rest) [] slot is = absurd (cc)
  place_reads (first ∷ rest) (cell ∷ cells) slot is =
      let own = map_cons first rest cell cells (slot_at choice) is in by own.0 (place_reads rest cells slot own.1) (same_slot first slot) refl
    where
      by : slot_at choice first ≡ Some cell
          → (slice_get cells (place_in rest slot) ≡ slot_at choice slot) ⊎ ((slice_get cells (place_in rest slot) ≡ None) × (Contains rest slot → ⊥))
          → (answer : Bool) → same_slot first slot ≡ answer
          → (slice_get (cell ∷ cells) (cond answer 0 (place_in rest slot + 1)) ≡ slot_at choice slot)
          ⊎ ((slice_get (cell ∷ cells) (cond answer 0 (place_in rest slot + 1)) ≡ None) × (Contains (first ∷ rest) slot → ⊥))
      by here later true same = inl (sym here ∙ ap (slot_at choice) (slots_same first slot same))
      by here later false differs = elim later [
        | inl found ↦ inl (past ∙ found)
        | inr (none, absent) ↦ inr (
          past ∙ none,
          λ inside. elim (Contains-cases first rest slot inside) [
            | inl is_first ↦ absurd (wrong (sym differs ∙ same_slots first slot is_first))
            | inr among ↦ absent among
          ],
        )
      ]
        where
          past : slice_get (cell ∷ cells) (place_in rest slot + 1) ≡ slice_get cells (place_in rest slot)
          past = let next : place_in rest slot + 1 ≡ suc (place_in rest slot) = omega (arith) in ap (slice_get (cell ∷ cells)) next

          wrong : false ≡ true → ⊥
          wrong e = cc

  pub place_found : (places : List Slot) (cells : List ℕ) (slot : Slot) → map (slot_at choice) places ≡ map Some cells → Contains places slot
      → slice_get cells (place_in places slot) ≡ slot_at choice slot
  place_found places cells slot is inside = elim (place_reads places cells slot is) [ inl found ↦ found | inr (none, absent) ↦ absurd (absent inside) ]

  pub source_in_reads : (needed : List Slot) (arities done : List ℕ) (places : List Slot) (cells : List ℕ) (side : Side) → AreSlots needed arities done places
      → AreDoneLong arities done choice → map (slot_at choice) places ≡ map Some cells → IsKnown done side
      → ((slot : Slot) → side ≡ Held slot → Contains needed slot)
      → code_at cells (source_in places side) ≡ side_at choice side
  source_in_reads needed arities done places cells (Constant code) slots long is known is_needed = refl
  source_in_reads needed arities done places cells Nothing slots long is known is_needed = slice_get_past cells (length places)
      (let same = parts_long places cells is in omega (arith, same))
  source_in_reads needed arities done places cells (Held slot) slots long is known is_needed = elim (place_reads places cells slot is) [
    | inl found ↦ found
    | inr (none, absent) ↦ none ∙ sym (by (long slot.get known) absent)
  ]
    where
      by : ((arity : ℕ) × (slice_get arities slot.get ≡ Some arity) × (length (choice slot.get) ≡ arity)) → (Contains places slot → ⊥)
          → slot_at choice slot ≡ None
      by (arity, is_arity, same) absent = elim (below_or_past slot.column arity) [
        | inl below ↦ absurd (absent (slots.there slot arity (is_needed slot refl) known is_arity below))
        | inr past ↦ slice_get_past (choice slot.get) slot.column (omega (arith, past, same))
      ]
        where
          below_or_past : (n m : ℕ) → (n < m) ⊎ (m ≤ n)
          below_or_past n m = elim (cases_order n m) [
            | inl same_n ↦ inr (omega (arith, same_n))
            | inr (inl under) ↦ inl under
            | inr (inr over) ↦ inr (omega (arith, over))
          ]

-- ---- the cells of one row

pub slots_read : (choice : ℕ → List ℕ) (number : ℕ) (before row : List ℕ) → choice number ≡ before ++ row
    → map (slot_at choice) (slots_from number (length before) (length row)) ≡ map Some row
slots_read choice number before [] is = refl
slots_read choice number before (code ∷ row) is =
    let first : slot_at choice (record { get = number; column = length before }) ≡ Some code = ap (λ it. slice_get it (length before)) is
    ∙ at_middle before code row in
    let rest = slots_read choice number (before ++ code ∷ []) row (is ∙ sym (append_assoc before (code ∷ []) row)) in
    let long = length-append before (code ∷ []) in
    (λ i. first i ∷ map (slot_at choice) (slots_from number (sym long i) (length row))) ∙ ap (λ them. Some code ∷ them) rest
  where
    at_middle : (xs : List ℕ) (x : ℕ) (ys : List ℕ) → slice_get (xs ++ x ∷ ys) (length xs) ≡ Some x
    at_middle [] x ys = refl
    at_middle (y ∷ xs) x ys = at_middle xs x ys

slots_of_get : (number column count : ℕ) (slot : Slot) → Contains (slots_from number column count) slot → slot.get ≡ number
slots_of_get number column zero slot inside = absurd (Contains-nil slot inside)
slots_of_get number column (suc count) slot inside = elim (Contains-cases (record { get = number; column = column }) (slots_from number
    (column + 1) count) slot inside) [
      | inl is ↦ sym (ap (λ (it : Slot). it.get) is)
      | inr later ↦ slots_of_get number (column + 1) count slot later
    ]

slots_within : (number column count : ℕ) (slot : Slot) → Contains (slots_from number column count) slot → slot.column < column + count
slots_within number column zero slot inside = absurd (Contains-nil slot inside)
slots_within number column (suc count) slot inside = elim (Contains-cases (record { get = number; column = column }) (slots_from number
    (column + 1) count) slot inside) [
      | inl is ↦ let same = ap (λ (it : Slot). it.column) is in omega (arith, same)
      | inr later ↦ let below = slots_within number (column + 1) count slot later in omega (arith, below)
    ]

slots_have : (number column count : ℕ) (slot : Slot) → slot.get ≡ number → column ≤ slot.column → slot.column < column + count
    → Contains (slots_from number column count) slot
slots_have number column zero slot is past below = absurd (omega (arith, past, below))
slots_have number column (suc count) slot is past below = elim (cases_order slot.column column) [
  | inl same ↦ subst (Contains (slots_from number column (suc count))) (λ i. record { get = sym is i; column = sym same i })
      (Contains-head (record { get = number; column = column }) (slots_from number (column + 1) count))
  | inr (inl under) ↦ absurd (omega (arith, under, past))
  | inr (inr over) ↦ Contains-rest (record { get = number; column = column }) (slots_from number (column + 1) count) slot
      (slots_have number (column + 1) count slot is (omega (arith, over)) (omega (arith, below)))
]

pub slots_more : (needed : List Slot) (arities done : List ℕ) (places : List Slot) (number arity : ℕ) → slice_get arities number ≡ Some arity
    → AreSlots needed arities done places
    → AreSlots needed arities (done ++ number ∷ []) (places ++ slots_from number 0 arity)
slots_more needed arities done places number arity is slots = record {
  there = λ slot own is_needed inside own_is below. elim (Contains-push_cases done number slot.get inside) [
    | inl old ↦ Contains-append_left places (slots_from number 0 arity) slot (slots.there slot own is_needed old own_is below)
    | inr same ↦
        let long : own ≡ arity = same_Some own arity (sym own_is ∙ ap (slice_get arities) (sym same) ∙ is) in
        Contains-append_right places (slots_from number 0 arity) slot (slots_have number 0 arity slot (sym same) (omega (arith)) (omega (arith, below, long)))
  ];
  own = λ slot inside. elim (Contains-append_cases places (slots_from number 0 arity) slot inside) [
    | inl old ↦ Contains-append_left done (number ∷ []) slot.get (slots.own slot old)
    | inr new ↦ subst (Contains (done ++ number ∷ [])) (sym (slots_of_get number 0 arity slot new)) (Contains-push done number)
  ];
  within = λ slot own inside own_is. elim (Contains-append_cases places (slots_from number 0 arity) slot inside) [
    | inl old ↦ slots.within slot own old own_is
    | inr new ↦
        let same : own ≡ arity = same_Some own arity (sym own_is ∙ ap (slice_get arities) (slots_of_get number 0 arity slot new) ∙ is) in
        let below = slots_within number 0 arity slot new in omega (arith, below, same)
  ];
}

-- the cells of joined slots are joined cells
pub parts_split : {X : Type 0} (f : X → Option ℕ) (xs ys : List X) (cells : List ℕ) → map f (xs ++ ys) ≡ map Some cells
    → (before : List ℕ) × (after : List ℕ) × (cells ≡ before ++ after) × (map f xs ≡ map Some before) × (map f ys ≡ map Some after)
parts_split f [] ys cells is = ([], cells, refl, refl, is)
parts_split f (x ∷ xs) ys [] is = absurd (cc)
parts_split f (x ∷ xs) ys (cell ∷ cells) is =
    let own = map_cons x (xs ++ ys) cell cells f is in
    let rest = parts_split f xs ys cells own.1 in
    (cell ∷ rest.0, rest.1, (λ i. cell ∷ rest.2 i), (λ i. own.0 i ∷ rest.3 i), rest.4)

-- ---- slots, one by one

pub slots_step : (places new : List Slot) (number column arity : ℕ) → column < arity → new ≡ places ++ record { get = number; column = column } ∷ []
    → new ++ slots_from number (column + 1) (arity - (column + 1)) ≡ places ++ slots_from number column (arity - column)
slots_step places new number column arity below is =
    let left : arity - column ≡ suc (arity - (column + 1)) = omega (arith, below) in
    ap (λ them. them ++ slots_from number (column + 1) (arity - (column + 1))) is
    ∙ append_assoc places (record { get = number; column = column } ∷ []) (slots_from number (column + 1) (arity - (column + 1)))
    ∙ ap (λ n. places ++ slots_from number column n) (sym left)

-- ---- slots that are kept

among_is : (slots : List Slot) (slot : Slot) → Contains slots slot → is_among slots slot ≡ true
among_is [] slot inside = absurd (Contains-nil slot inside)
among_is (first ∷ rest) slot inside = elim (Contains-cases first rest slot inside) [
  | inl is ↦ ap (λ it. it || is_among rest slot) (same_slots first slot is)
  | inr later ↦ by (same_slot first slot) (among_is rest slot later)
]
  where
    by : (answer : Bool) → is_among rest slot ≡ true → (answer || is_among rest slot) ≡ true
    by true is = refl
    by false is = is

pub kept_among : (needed slots : List Slot) (slot : Slot) → Contains (kept_slots needed slots) slot → Contains slots slot
kept_among needed [] slot inside = absurd (Contains-nil slot inside)
kept_among needed (first ∷ rest) slot inside =
    elim (Contains-append_cases (cond (is_among needed first) (first ∷ []) []) (kept_slots needed rest) slot inside) [
      | inl here ↦ subst (Contains (first ∷ rest)) (by (is_among needed first) here) (Contains-head first rest)
      | inr later ↦ Contains-rest first rest slot (kept_among needed rest slot later)
    ]
  where
    by : (answer : Bool) → Contains (cond answer (first ∷ []) []) slot → first ≡ slot
    by true here = Contains-one first slot here
    by false here = absurd (Contains-nil slot here)

pub kept_needed : (needed slots : List Slot) (slot : Slot) → Contains slots slot → Contains needed slot → Contains (kept_slots needed slots) slot
kept_needed needed [] slot inside is_needed = absurd (Contains-nil slot inside)
kept_needed needed (first ∷ rest) slot inside is_needed = elim (Contains-cases first rest slot inside) [
  | inl is ↦ Contains-append_left (cond (is_among needed first) (first ∷ []) []) (kept_slots needed rest) slot
      (subst (λ b. Contains (cond b (first ∷ []) []) slot) (sym (among_is needed first (subst (Contains needed) (sym is) is_needed)))
      (subst (Contains (first ∷ [])) is (Contains-head first [])))
  | inr later ↦ Contains-append_right (cond (is_among needed first) (first ∷ []) []) (kept_slots needed rest) slot
      (kept_needed needed rest slot later is_needed)
]

side_slot : (side : Side) (slot : Slot) → side ≡ Held slot → Contains (side_slots side) slot
side_slot (Constant code) slot is = absurd (cc)
side_slot Nothing slot is = absurd (cc)
side_slot (Held other) slot is = let same : other ≡ slot = cc in subst (Contains (other ∷ [])) same (Contains-head other [])

-- ---- needed slots

pub decided_is : (done : List ℕ) (equation : Equation) → is_decided done equation ≡ true → Contains done equation.slot.get × IsKnown done equation.side
decided_is done equation is =
    let parts = both_true (is_in done equation.slot.get) (is_known done equation.side) is in
    (in_is done equation.slot.get parts.0, known_is done equation.side parts.1)

decided-from : (done : List ℕ) (equation : Equation) → Contains done equation.slot.get → IsKnown done equation.side → is_decided done equation ≡ true
decided-from done equation inside known =
    let own = is_in-from done equation.slot.get inside in let side = is_known-from done equation.side known in λ i. own i && side i

-- what stands where a test fails
if_not : {X : Type 0} (answer : Bool) (things : List X) (thing : X) → (answer ≡ true → ⊥) → Contains things thing → Contains (cond answer [] things) thing
if_not true things thing not inside = absurd (not refl)
if_not false things thing not inside = inside

not_if : {X : Type 0} (answer : Bool) (things : List X) (thing : X) → Contains (cond answer [] things) thing → (answer ≡ true → ⊥) × Contains things thing
not_if true things thing inside = absurd (Contains-nil thing inside)
not_if false things thing inside = ((λ is. cc), inside)

inputs_needed : (arities done : List ℕ) (number : ℕ) (gets : List Get) (at : ℕ) (get : Get) (link : Link) (slot : Slot) → slice_get gets at ≡ Some get
    → Contains get.inputs link → (Contains done (number + at) → ⊥) → side_of (take (number + at) arities) link.source ≡ Held slot
    → Contains (input_slots arities done number gets) slot
inputs_needed arities done number [] at get link slot there linked fresh is = absurd (none-some get there)
inputs_needed arities done number (first ∷ rest) zero get link slot there linked fresh is =
    let one : first ≡ get = same_Some first get there in
    let same : number + 0 ≡ number = omega (arith) in
    Contains-append_left (cond (is_in done number) [] (flat_map (λ (it : Link). side_slots (side_of (take number arities) it.source)) first.inputs))
    (input_slots arities done (number + 1) rest) slot
    (if_not (is_in done number) (flat_map (λ (it : Link). side_slots (side_of (take number arities) it.source)) first.inputs) slot
    (λ old. fresh (subst (Contains done) (sym same) (in_is done number old)))
    (Contains-flat (λ (it : Link). side_slots (side_of (take number arities) it.source)) first.inputs link slot
    (subst (λ (it : Get). Contains it.inputs link) (sym one) linked)
    (side_slot (side_of (take number arities) link.source) slot (ap (λ n. side_of (take n arities) link.source) (sym same) ∙ is))))
inputs_needed arities done number (first ∷ rest) (suc at) get link slot there linked fresh is =
    let same : number + 1 + at ≡ number + suc at = omega (arith) in
    Contains-append_right (cond (is_in done number) [] (flat_map (λ (it : Link). side_slots (side_of (take number arities) it.source)) first.inputs))
    (input_slots arities done (number + 1) rest) slot
    (inputs_needed arities done (number + 1) rest at get link slot there linked (λ old. fresh (subst (Contains done) same old))
    (ap (λ n. side_of (take n arities) link.source) same ∙ is))

-- what inputs need after one more get was needed before
inputs_before : (arities done : List ℕ) (one number : ℕ) (gets : List Get) (slot : Slot) → Contains (input_slots arities (done ++ one ∷ []) number gets) slot
    → Contains (input_slots arities done number gets) slot
inputs_before arities done one number [] slot inside = inside
inputs_before arities done one number (get ∷ gets) slot inside =
    let own = flat_map (λ (it : Link). side_slots (side_of (take number arities) it.source)) get.inputs in
    elim (Contains-append_cases (cond (is_in (done ++ one ∷ []) number) [] own) (input_slots arities (done ++ one ∷ []) (number + 1) gets) slot inside) [
      | inl here ↦
          let told = not_if (is_in (done ++ one ∷ []) number) own slot here in
          Contains-append_left (cond (is_in done number) [] own) (input_slots arities done (number + 1) gets) slot
          (if_not (is_in done number) own slot
          (λ old. told.0 (is_in-from (done ++ one ∷ []) number (Contains-append_left done (one ∷ []) number (in_is done number old)))) told.1)
      | inr later ↦ Contains-append_right (cond (is_in done number) [] own) (input_slots arities done (number + 1) gets) slot
          (inputs_before arities done one (number + 1) gets slot later)
    ]

-- the slots that one equation names where it is not decided
abbrev open_slots : List ℕ → Equation → List Slot
open_slots done equation = cond (is_decided done equation) [] (equation.slot ∷ side_slots equation.side)

equations_before : (done : List ℕ) (one : ℕ) (equations : List Equation) (slot : Slot) → Contains (equation_slots (done ++ one ∷ []) equations) slot
    → Contains (equation_slots done equations) slot
equations_before done one equations slot inside =
    let found = Contains-flat_from (open_slots (done ++ one ∷ [])) equations slot inside in
    let told = not_if (is_decided (done ++ one ∷ []) found.0) ((found.0).slot ∷ side_slots (found.0).side) slot found.2 in
    Contains-flat (open_slots done) equations found.0 slot found.1
    (if_not (is_decided done found.0) ((found.0).slot ∷ side_slots (found.0).side) slot
    (λ old. let parts = decided_is done found.0 old in
    told.0 (decided-from (done ++ one ∷ []) found.0 (Contains-append_left done (one ∷ []) (found.0).slot.get parts.0)
    (known_more done one (found.0).side parts.1))) told.1)

module _ (arities : List ℕ) (gets : List Get) (equations : List Equation) (head : List Source) where
  -- what is needed after one more get was needed before
  pub needed_before : (done : List ℕ) (one : ℕ) (slot : Slot) → Contains (needed_slots arities gets equations head (done ++ one ∷ [])) slot
      → Contains (needed_slots arities gets equations head done) slot
  needed_before done one slot inside =
      let new = done ++ one ∷ [] in
      elim (Contains-append_cases (equation_slots new equations ++ input_slots arities new 0 gets) (head_slots arities head) slot inside) [
        | inl linked ↦ Contains-append_left (equation_slots done equations ++ input_slots arities done 0 gets) (head_slots arities head) slot
            (elim (Contains-append_cases (equation_slots new equations) (input_slots arities new 0 gets) slot linked) [
              | inl here ↦ Contains-append_left (equation_slots done equations) (input_slots arities done 0 gets) slot
                  (equations_before done one equations slot here)
              | inr asked ↦ Contains-append_right (equation_slots done equations) (input_slots arities done 0 gets) slot
                  (inputs_before arities done one 0 gets slot asked)
            ])
        | inr named ↦ Contains-append_right (equation_slots done equations ++ input_slots arities done 0 gets) (head_slots arities head) slot named
      ]

  module _ (done : List ℕ) where
    in_links : (slot : Slot) → Contains (equation_slots done equations ++ input_slots arities done 0 gets) slot
        → Contains (needed_slots arities gets equations head done) slot
    in_links slot inside = Contains-append_left (equation_slots done equations ++ input_slots arities done 0 gets) (head_slots arities head) slot inside

    in_equations : (equation : Equation) (slot : Slot) → Contains equations equation → (Contains done equation.slot.get × IsKnown done equation.side → ⊥)
        → Contains (equation.slot ∷ side_slots equation.side) slot → Contains (needed_slots arities gets equations head done) slot
    in_equations equation slot among undecided inside = in_links slot (Contains-append_left (equation_slots done equations)
        (input_slots arities done 0 gets) slot
        (Contains-flat (open_slots done) equations equation slot among
        (if_not (is_decided done equation) (equation.slot ∷ side_slots equation.side) slot (λ is. undecided (decided_is done equation is)) inside)))

    pub needed_are : AreNeeded arities gets equations done (needed_slots arities gets equations head done)
    needed_are = record {
      slots = λ equation among undecided. in_equations equation equation.slot among undecided (Contains-head equation.slot (side_slots equation.side));
      sides = λ equation slot among undecided side. in_equations equation slot among undecided
          (Contains-rest equation.slot (side_slots equation.side) slot (side_slot equation.side slot side));
      inputs = λ number get link slot there linked fresh side.
          let same : 0 + number ≡ number = omega (arith) in
          in_links slot (Contains-append_right (equation_slots done equations) (input_slots arities done 0 gets) slot
          (inputs_needed arities done 0 gets number get link slot there linked (λ old. fresh (subst (Contains done) same old))
          (ap (λ n. side_of (take n arities) link.source) same ∙ side)));
    }

    pub head_needed : (source : Source) (slot : Slot) → Contains head source → side_of arities source ≡ Held slot
        → Contains (needed_slots arities gets equations head done) slot
    head_needed source slot inside side = Contains-append_right (equation_slots done equations ++ input_slots arities done 0 gets)
        (head_slots arities head) slot
        (Contains-flat (λ it. side_slots (side_of arities it)) head source slot inside (side_slot (side_of arities source) slot side))
