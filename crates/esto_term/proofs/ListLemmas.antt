-- Lists: what they contain, what stands at a place of them, and what a map, a test and a joining make of them.
use Rattle.std.proofs.Common.{◌≡◌, ◌≢◌, ◌↔◌, ◌⊎◌, inl, inr, zero, suc, ℕ, ◌<◌, ◌≤◌, ◌+◌, ◌==◌, Bool, true, false, cond, List, [], ◌∷◌, ◌++◌, map, length, take}
use Rattle.std.proofs.Common.{set, swap, get_or, Contains, AllPairs, slice_get, Some, refl, sym, ap, ◌∙◌, subst, arith, Option, option_map}
use Rattle.std.specs.List.{filter, flat_map, range_with_len}
use Rattle.std.specs.List.Sorted.{IsPermutation}
use Rattle.std.proofs.lemmas.Bool.{cases_order, eq-eqb, ne_eqb}
use Rattle.std.proofs.lemmas.Bool.Decides.{nat_tests}
use Rattle.std.proofs.lemmas.List.{get_or-map, get_or-set_other, get_or-set_same, length-map, length-set, take_more, take_all, append_assoc}
use Rattle.std.proofs.lemmas.List.Edits.{length-swap, swap_is}
use Rattle.std.proofs.lemmas.List.Elements.{Contains-append_cases, Contains-append_left, Contains-append_right, Contains-push_cases}
use Rattle.std.proofs.lemmas.List.FromFn.{length-range_with_len, get_or-range_with_len}
use Rattle.std.proofs.lemmas.List.Sorted.{IsPermutation-keeps}
use Rattle.std.proofs.lemmas.Option.{none-some, same_Some, slice_get_within, slice_get-get_or, slice_get_cases, get_or_from_slice_get}

-- ---- what a list contains

pub Contains-nil : {X : Type 0} (thing : X) → Contains [] thing → ⊥
Contains-nil thing (place, within, is) = omega arith

pub Contains-head : {X : Type 0} (first : X) (rest : List X) → Contains (first ∷ rest) first
Contains-head first rest = (0, omega arith, refl)

pub Contains-rest : {X : Type 0} (first : X) (rest : List X) (thing : X) → Contains rest thing → Contains (first ∷ rest) thing
Contains-rest first rest thing (place, within, is) = (suc place, omega arith, is)

pub Contains-cases : {X : Type 0} (first : X) (rest : List X) (thing : X) → Contains (first ∷ rest) thing → (first ≡ thing) ⊎ Contains rest thing
Contains-cases first rest thing (zero, within, is) = inl is
Contains-cases first rest thing (suc place, within, is) = inr (place, omega arith, is)

-- what stands at a place is contained
pub Contains-at : {X : Type 0} (things : List X) (place : ℕ) (thing : X) → slice_get things place ≡ Some thing → Contains things thing
Contains-at things place thing found = (place, slice_get_within things place thing found, get_or_from_slice_get things place thing thing found)

-- what a list of one thing contains is that thing
pub Contains-one : {X : Type 0} (one other : X) → Contains (one ∷ []) other → one ≡ other
Contains-one one other inside = elim (Contains-cases one [] other inside) [ inl is ↦ is | inr none ↦ absurd (Contains-nil other none) ]

-- what stands in a list stands in it with one more at the end
pub Contains-pushed : {X : Type 0} (now new : List X) (last thing : X) → new ≡ now ++ last ∷ [] → Contains now thing → Contains new thing
Contains-pushed now new last thing pushed inside = subst (λ all. Contains all thing) (sym pushed) (Contains-append_left now (last ∷ []) thing inside)

-- lists that are equal begin alike, and go on alike
pub first_same : {X : Type 0} (one other : X) (rest others : List X) → one ∷ rest ≡ other ∷ others → one ≡ other
first_same one other rest others same = cc

pub rest_same : {X : Type 0} (one other : X) (rest others : List X) → one ∷ rest ≡ other ∷ others → rest ≡ others
rest_same one other rest others same = cc

-- ---- a map of a list

pub Contains-map : {X Y : Type 0} (m : X → Y) (things : List X) (thing : X) → Contains things thing → Contains (map m things) (m thing)
Contains-map m things thing (place, within, is) = (place, rw length-map within, get_or-map m things place thing (m thing) within ∙ ap m is)

pub Contains-map_from : {X Y : Type 0} (m : X → Y) (things : List X) (other : Y) → Contains (map m things) other
    → (thing : X) × Contains things thing × (m thing ≡ other)
Contains-map_from m [] other inside = absurd (Contains-nil other inside)
Contains-map_from m (first ∷ rest) other inside = elim (Contains-cases (m first) (map m rest) other inside) [
  | inl is ↦ (first, Contains-head first rest, is)
  | inr later ↦ let found = Contains-map_from m rest other later in (found.0, Contains-rest first rest found.0 found.1, found.2)
]

pub map_agree : {X Y : Type 0} (m other : X → Y) (things : List X) → ((thing : X) → Contains things thing → m thing ≡ other thing)
    → map m things ≡ map other things
map_agree m other [] agree = refl
map_agree m other (first ∷ rest) agree =
    λ i. agree first (Contains-head first rest) i ∷ map_agree m other rest (λ thing inside. agree thing (Contains-rest first rest thing inside)) i

-- maps that make one list of a list agree on what it contains
pub agree-from_map : {X Y : Type 0} (m other : X → Y) (things : List X) (thing : X) → map m things ≡ map other things → Contains things thing
    → m thing ≡ other thing
agree-from_map m other [] thing same inside = absurd (Contains-nil thing inside)
agree-from_map m other (first ∷ rest) thing same inside = elim (Contains-cases first rest thing inside) [
  | inl is ↦ let at_first : m first ≡ other first = cc in ap m (sym is) ∙ at_first ∙ ap other is
  | inr later ↦ agree-from_map m other rest thing (cc) later
]

pub map_then : {X Y Z : Type 0} (m : X → Y) (next : Y → Z) (things : List X) → map next (map m things) ≡ map (λ thing. next (m thing)) things
map_then m next [] = refl
map_then m next (first ∷ rest) = ap (λ others. next (m first) ∷ others) (map_then m next rest)

pub map_itself : {X : Type 0} (things : List X) → map (λ thing. thing) things ≡ things
map_itself [] = refl
map_itself (first ∷ rest) = ap (λ others. first ∷ others) (map_itself rest)

-- a map that tells things apart tells lists apart
pub map_one : {X Y : Type 0} (m : X → Y) → ((one other : X) → m one ≡ m other → one ≡ other) → (xs ys : List X) → map m xs ≡ map m ys → xs ≡ ys
map_one m apart [] [] same = refl
map_one m apart [] (y ∷ ys) same = absurd (cc)
map_one m apart (x ∷ xs) [] same = absurd (cc)
map_one m apart (x ∷ xs) (y ∷ ys) same =
    let first = apart x y (first_same (m x) (m y) (map m xs) (map m ys) same) in
    let rest = map_one m apart xs ys (rest_same (m x) (m y) (map m xs) (map m ys) same) in
    λ i. first i ∷ rest i

-- two lists that one list is made of are of one length
pub one_length : {X Y Z : Type 0} (m : X → Z) (other : Y → Z) (things : List X) (others : List Y) (made : List Z) → made ≡ map m things
    → made ≡ map other others → length things ≡ length others
one_length m other things others made is is_other =
    sym (length-map things m) ∙ sym (ap length is) ∙ ap length is_other ∙ length-map others other

-- ---- joined lists, and what passes a test

-- what is done, and then what is left, if it is there
abbrev pub after : {X : Type 0} → List X → Option (List X) → Option (List X)
after done left = option_map (λ rest. done ++ rest) left

-- two lists that are put at the end
pub two_more : {X : Type 0} (all middle more first second : List X) → middle ≡ all ++ first → more ≡ middle ++ second → more ≡ all ++ (first ++ second)
two_more all middle more first second one two = two ∙ ap (λ it. it ++ second) one ∙ append_assoc all first second

pub Contains-flat : {X Y : Type 0} (parts : X → List Y) (things : List X) (thing : X) (part : Y) → Contains things thing → Contains (parts thing) part
    → Contains (flat_map parts things) part
Contains-flat parts [] thing part inside of_it = absurd (Contains-nil thing inside)
Contains-flat parts (first ∷ rest) thing part inside of_it = elim (Contains-cases first rest thing inside) [
  | inl is ↦ Contains-append_left (parts first) (flat_map parts rest) part (subst (λ it. Contains (parts it) part) (sym is) of_it)
  | inr later ↦ Contains-append_right (parts first) (flat_map parts rest) part (Contains-flat parts rest thing part later of_it)
]

pub Contains-flat_from : {X Y : Type 0} (parts : X → List Y) (things : List X) (part : Y) → Contains (flat_map parts things) part
    → (thing : X) × Contains things thing × Contains (parts thing) part
Contains-flat_from parts [] part inside = absurd (Contains-nil part inside)
Contains-flat_from parts (first ∷ rest) part inside = elim (Contains-append_cases (parts first) (flat_map parts rest) part inside) [
  | inl here ↦ (first, Contains-head first rest, here)
  | inr later ↦ let found = Contains-flat_from parts rest part later in (found.0, Contains-rest first rest found.0 found.1, found.2)
]

pub Contains-filter : {X : Type 0} (test : X → Bool) (things : List X) (thing : X) → Contains things thing → test thing ≡ true
    → Contains (filter test things) thing
Contains-filter test [] thing inside passes = absurd (Contains-nil thing inside)
Contains-filter test (first ∷ rest) thing inside passes = by (λ later. Contains-filter test rest thing later passes) (test first) refl
  where
    by : (Contains rest thing → Contains (filter test rest) thing) → (answer : Bool) → test first ≡ answer
        → Contains (cond answer (first ∷ filter test rest) (filter test rest)) thing
    by again true told = elim (Contains-cases first rest thing inside) [
      | inl is ↦ subst (Contains (first ∷ filter test rest)) is (Contains-head first (filter test rest))
      | inr later ↦ Contains-rest first (filter test rest) thing (again later)
    ]
    by again false told = elim (Contains-cases first rest thing inside) [
      | inl is ↦ let wrong : false ≡ true = sym told ∙ ap test is ∙ passes in cc
      | inr later ↦ again later
    ]

pub Contains-filter_from : {X : Type 0} (test : X → Bool) (things : List X) (thing : X) → Contains (filter test things) thing
    → Contains things thing × (test thing ≡ true)
Contains-filter_from test [] thing inside = absurd (Contains-nil thing inside)
Contains-filter_from test (first ∷ rest) thing inside = by (λ later. Contains-filter_from test rest thing later) (test first) refl inside
  where
    by : (Contains (filter test rest) thing → Contains rest thing × (test thing ≡ true)) → (answer : Bool) → test first ≡ answer
        → Contains (cond answer (first ∷ filter test rest) (filter test rest)) thing → Contains (first ∷ rest) thing × (test thing ≡ true)
    by again true told kept = elim (Contains-cases first (filter test rest) thing kept) [
      | inl is ↦ (subst (Contains (first ∷ rest)) is (Contains-head first rest), ap test (sym is) ∙ told)
      | inr later ↦ let found = again later in (Contains-rest first rest thing found.0, found.1)
    ]
    by again false told kept = let found = again kept in (Contains-rest first rest thing found.0, found.1)

-- ---- places

pub place-from_Contains : {X : Type 0} (things : List X) (thing : X) → Contains things thing → (place : ℕ) × (slice_get things place ≡ Some thing)
place-from_Contains things thing (place, within, is) = (place, slice_get-get_or things place thing within ∙ ap Some is)

pub thing_at : {X : Type 0} (things : List X) (place : ℕ) → place < length things → (thing : X) × (slice_get things place ≡ Some thing)
thing_at things place within = elim (slice_get_cases things place).1 [
  | inl (thing, inside, found, is) ↦ (thing, found)
  | inr (past, none) ↦ absurd (omega arith)
]

module _ {X Y : Type 0} (m : X → Y) where
  pub map_at : (things : List X) (place : ℕ) (thing : X) → slice_get things place ≡ Some thing → slice_get (map m things) place ≡ Some (m thing)
  map_at [] place thing at = absurd (cc)
  map_at (first ∷ rest) zero thing at = let is : first ≡ thing = cc in ap (λ it. Some (m it)) is
  map_at (first ∷ rest) (suc place) thing at = map_at rest place thing at

  pub map_at-from : (things : List X) (place : ℕ) (other : Y) → slice_get (map m things) place ≡ Some other
      → (thing : X) × (slice_get things place ≡ Some thing) × (m thing ≡ other)
  map_at-from [] place other at = absurd (cc)
  map_at-from (first ∷ rest) zero other at = (first, refl, cc)
  map_at-from (first ∷ rest) (suc place) other at = map_at-from rest place other at

pub at_left : {X : Type 0} (xs ys : List X) (place : ℕ) (x : X) → slice_get xs place ≡ Some x → slice_get (xs ++ ys) place ≡ Some x
at_left [] ys place x at = absurd (cc)
at_left (first ∷ xs) ys zero x at = at
at_left (first ∷ xs) ys (suc place) x at = at_left xs ys place x at

pub at_right : {X : Type 0} (xs ys : List X) (place : ℕ) (x : X) → slice_get ys place ≡ Some x → slice_get (xs ++ ys) (length xs + place) ≡ Some x
at_right [] ys place x at = let same : 0 + place ≡ place = omega arith in rw same at
at_right (first ∷ xs) ys place x at = let same : length (first ∷ xs) + place ≡ suc (length xs + place) = omega arith in rw same (at_right xs ys place x at)

-- the last thing
pub at_end : {X : Type 0} (xs : List X) (last : X) → slice_get (xs ++ last ∷ []) (length xs) ≡ Some last
at_end [] last = refl
at_end (x ∷ xs) last = at_end xs last

-- what stands at a place of a list with one more item stands there already, or is that item
pub at_pushed : {X : Type 0} (xs : List X) (x : X) (place : ℕ) (found : X) → slice_get (xs ++ x ∷ []) place ≡ Some found
    → (slice_get xs place ≡ Some found) ⊎ ((place ≡ length xs) × (x ≡ found))
at_pushed [] x zero found e = inr (refl, same_Some x found e)
at_pushed [] x (suc place) found e = absurd (none-some found e)
at_pushed (y ∷ xs) x zero found e = inl e
at_pushed (y ∷ xs) x (suc place) found e = elim (at_pushed xs x place found e) [ inl there ↦ inl there | inr last ↦ inr (ap suc last.0, last.1) ]

pub map_by_places : {X Y : Type 0} (m : X → Y) (xs : List X) (ys : List Y) → length xs ≡ length ys
    → ((place : ℕ) (x : X) (y : Y) → slice_get xs place ≡ Some x → slice_get ys place ≡ Some y → m x ≡ y) → map m xs ≡ ys
map_by_places m [] [] lengths each = refl
map_by_places m [] (y ∷ ys) lengths each = absurd (omega arith)
map_by_places m (x ∷ xs) [] lengths each = absurd (omega arith)
map_by_places m (x ∷ xs) (y ∷ ys) lengths each =
    let first : m x ≡ y = each 0 x y refl refl in
    let rest : map m xs ≡ ys = map_by_places m xs ys (omega arith) (λ place other target at goes. each (suc place) other target at goes) in
    λ i. first i ∷ rest i

pub range_at : (first count place : ℕ) → place < count → slice_get (range_with_len first count) place ≡ Some (first + place)
range_at first count place within =
    slice_get-get_or (range_with_len first count) place 0 (rw (length-range_with_len first count) within)
    ∙ ap Some (get_or-range_with_len first count place 0 within)

-- ---- what holds of the items that were seen

-- what a read gives is in the list
pub Contains-read : {X : Type 0} (xs : List X) (i : ℕ) (x : X) → i < length xs → x ≡ get_or xs i x → Contains xs x
Contains-read xs i x l e = (i, l, sym e)

-- a fact about the elements seen, at one more element
pub each_more : {X : Type 0} (P : X → Type 0) (xs : List X) (i : ℕ) (x : X) → i < length xs → x ≡ get_or xs i x → P x → ((y : X) → Contains (take i xs) y → P y)
    → (y : X) → Contains (take (i + 1) xs) y → P y
each_more P xs i x within read here before y inside =
    elim (Contains-push_cases (take i xs) x y (rw (take_more xs i x within, ← read) at inside)) [
      | inl seen ↦ before y seen
      | inr same ↦ subst P same here
    ]

pub each_seen : {X : Type 0} (P : X → Type 0) (xs : List X) (i : ℕ) → length xs ≤ i → ((y : X) → Contains (take i xs) y → P y) → (y : X) → Contains xs y → P y
each_seen P xs i all before y inside = before y (rw (take_all i xs all) inside)

-- what holds of the first few items, at their places, holds of one more, and at the end of all
module _ {A : Type 0} (P : ℕ → A → Type 0) (xs : List A) where
  abbrev pub HoldsBelow : ℕ → Type 0
  HoldsBelow count = (place : ℕ) (x : A) → place < count → slice_get xs place ≡ Some x → P place x

  pub holds_more : (count : ℕ) (x : A) → count < length xs → x ≡ get_or xs count x → HoldsBelow count → P count x → HoldsBelow (count + 1)
  holds_more count x l e before now place y m d = elim (cases_order place count) [
    | inl same ↦ subst (λ n. P n y) (sym same) (subst (P count) (e ∙ get_or_from_slice_get xs count y x (ap (slice_get xs) (sym same) ∙ d)) now)
    | inr apart ↦ elim apart [ inl below ↦ before place y below d | inr above ↦ absurd (omega (arith, above, m)) ]
  ]

  pub holds_all : (count : ℕ) → length xs ≤ count → HoldsBelow count → (place : ℕ) (x : A) → slice_get xs place ≡ Some x → P place x
  holds_all count l below place x e = below place x (omega (arith, slice_get_within xs place x e, l)) e

  -- the same, where a loop goes over a list that is this one
  pub holds_more_in : (ys : List A) → ys ≡ xs → (count : ℕ) (x : A) → count < length ys → x ≡ get_or ys count x → HoldsBelow count → P count x
      → HoldsBelow (count + 1)
  holds_more_in ys same count x l e = holds_more count x (subst (λ zs. count < length zs) same l) (subst (λ zs. x ≡ get_or zs count x) same e)

  pub holds_all_in : (ys : List A) → ys ≡ xs → (count : ℕ) → length ys ≤ count → HoldsBelow count → (place : ℕ) (x : A) → slice_get xs place ≡ Some x
      → P place x
  holds_all_in ys same count l = holds_all count (subst (λ zs. length zs ≤ count) same l)

-- the same as equivalences: what holds of one of the first few items, or of each, before and after one item more, and at the end
module _ {A : Type 0} (P : ℕ → A → Type 0) (xs : List A) where
  abbrev pub SomeBelow : ℕ → Type 0
  SomeBelow count = (place : ℕ) × (place < count) × ((x : A) × (slice_get xs place ≡ Some x) × P place x)

  pub some_none : SomeBelow 0 → ⊥
  some_none (place, below, found) = omega (arith, below)

  pub some_step : (count : ℕ) (x : A) → slice_get xs count ≡ Some x → SomeBelow (count + 1) ↔ (SomeBelow count ⊎ P count x)
  some_step count x at = (
    λ (place, below, (y, at_y, holds)). elim (cases_order place count) [
      | inl same ↦ (let is : y ≡ x = same_Some y x (sym at_y ∙ ap (slice_get xs) same ∙ at) in inr (subst (λ n. P n x) same (subst (P place) is holds)))
      | inr apart ↦ elim apart [ inl before ↦ inl (place, before, (y, at_y, holds)) | inr after ↦ absurd (omega (arith, below, after)) ]
    ],
    λ h. elim h [ inl (place, below, found) ↦ (place, omega (arith, below), found) | inr holds ↦ (count, omega arith, (x, at, holds)) ],
  )

  pub some_all : (count : ℕ) → length xs ≤ count → SomeBelow count ↔ ((place : ℕ) × ((x : A) × (slice_get xs place ≡ Some x) × P place x))
  some_all count l = (
    λ (place, below, found). (place, found),
    λ (place, (x, at, holds)). (place, omega (arith, slice_get_within xs place x at, l), (x, at, holds)),
  )

  pub each_none : HoldsBelow P xs 0
  each_none place x below at = absurd (omega (arith, below))

  pub each_step : (count : ℕ) (x : A) → slice_get xs count ≡ Some x → HoldsBelow P xs (count + 1) ↔ (HoldsBelow P xs count × P count x)
  each_step count x at = (
    λ each. (λ place y below at_y. each place y (omega (arith, below)) at_y, each count x (omega arith) at),
    λ (before, now) place y below at_y. elim (cases_order place count) [
      | inl same ↦ (let is : x ≡ y = same_Some x y (sym at ∙ ap (slice_get xs) (sym same) ∙ at_y) in subst (λ n. P n y) (sym same) (subst (P count) is now))
      | inr apart ↦ elim apart [ inl earlier ↦ before place y earlier at_y | inr later ↦ absurd (omega (arith, below, later)) ]
    ],
  )

  pub each_all : (count : ℕ) → length xs ≤ count → HoldsBelow P xs count ↔ ((place : ℕ) (x : A) → slice_get xs place ≡ Some x → P place x)
  each_all count l = (holds_all P xs count l, λ each place x below at. each place x at)

pub some_contained : {A : Type 0} (P : A → Type 0) (xs : List A) (count : ℕ) → length xs ≤ count
    → SomeBelow (λ _ x. P x) xs count ↔ ((x : A) × Contains xs x × P x)
some_contained P xs count l = (
  λ (place, below, (x, at, holds)). (x, Contains-at xs place x at, holds),
  λ (x, inside, holds). let at = place-from_Contains xs x inside in (at.0, omega (arith, slice_get_within xs at.0 x at.1, l), (x, at.1, holds)),
)

-- where the first few items of a list have a property not, and these are all, none has it
pub none_holds : {A : Type 0} (P : A → Type 0) (xs ys : List A) → ys ≡ xs → (count : ℕ) → length ys ≤ count → HoldsBelow (λ _ x. P x → ⊥) ys count → (x : A)
    → Contains xs x → P x → ⊥
none_holds P xs ys same count l none x there =
    let at = place-from_Contains ys x (subst (λ zs. Contains zs x) (sym same) there) in holds_all (λ _ x. P x → ⊥) ys count l none at.0 x at.1

-- ---- lists with the same items in another order

module _ {A : Type 0} (R : A → A → Type 0) (turned : (x y : A) → R x y → R y x) where
  -- it holds of the items at each two places
  abbrev AtTwo : List A → Type 0
  AtTwo xs = (i j : ℕ) (d : A) → i ≢ j → i < length xs → j < length xs → R (get_or xs i d) (get_or xs j d)

  two_from_pairs : (xs : List A) → AllPairs R xs → AtTwo xs
  two_from_pairs xs pairs i j d apart l m = elim (cases_order i j) [
    | inl same ↦ absurd (apart same)
    | inr order ↦ elim order [ inl less ↦ pairs i j d less m | inr more ↦ turned (get_or xs j d) (get_or xs i d) (pairs j i d more l) ]
  ]

  -- where the item at a place comes from, when two items change their places
  module _ (xs : List A) (a b : ℕ) (within_a : a < length xs) (within_b : b < length xs) where
    from_place : ℕ → ℕ
    from_place k = cond (k == b) a (cond (k == a) b k)

    from_b : (k : ℕ) → k ≡ b → from_place k ≡ a
    unfolding from_place
    from_b k same = ap (λ test. cond test a (cond (k == a) b k)) (eq-eqb k b same)

    from_a : (k : ℕ) → k ≢ b → k ≡ a → from_place k ≡ b
    unfolding from_place
    from_a k apart same = ap (λ test. cond test a (cond (k == a) b k)) (ne_eqb k b apart) ∙ ap (λ test. cond test b k) (eq-eqb k a same)

    from_other : (k : ℕ) → k ≢ b → k ≢ a → from_place k ≡ k
    unfolding from_place
    from_other k apart away = ap (λ test. cond test a (cond (k == a) b k)) (ne_eqb k b apart) ∙ ap (λ test. cond test b k) (ne_eqb k a away)

    from_apart : (i j : ℕ) → i ≢ j → from_place i ≢ from_place j
    unfolding from_place
    from_apart i j apart = grind (arith, nat_tests)

    from_within : (k : ℕ) → k < length xs → from_place k < length xs
    from_within k within = elim (cases_order k b) [
      | inl same ↦ subst (λ n. n < length xs) (sym (from_b k same)) within_a
      | inr order ↦
          let apart : k ≢ b = elim order [ inl less ↦ omega (arith, less) | inr more ↦ omega (arith, more) ] in
          elim (cases_order k a) [
            | inl same ↦ subst (λ n. n < length xs) (sym (from_a k apart same)) within_b
            | inr other ↦
                let away : k ≢ a = elim other [ inl less ↦ omega (arith, less) | inr more ↦ omega (arith, more) ] in
                subst (λ n. n < length xs) (sym (from_other k apart away)) within
          ]
    ]

    at_from : (k : ℕ) (d : A) → get_or (swap xs a b) k d ≡ get_or xs (from_place k) d
    at_from k d = ap (λ ys. get_or ys k d) (sym (swap_is xs a b d within_a within_b)) ∙ elim (cases_order k b) [
      | inl same ↦
          ap (λ n. get_or (set (set xs a (get_or xs b d)) b (get_or xs a d)) n d) same
          ∙ get_or-set_same (set xs a (get_or xs b d)) b (get_or xs a d) d (subst (λ n. b < n) (sym (length-set xs a (get_or xs b d))) within_b)
          ∙ ap (λ n. get_or xs n d) (sym (from_b k same))
      | inr order ↦
          let apart : k ≢ b = elim order [ inl less ↦ omega (arith, less) | inr more ↦ omega (arith, more) ] in
          get_or-set_other (set xs a (get_or xs b d)) b k (get_or xs a d) d apart ∙ elim (cases_order k a) [
            | inl same ↦
                ap (λ n. get_or (set xs a (get_or xs b d)) n d) same ∙ get_or-set_same xs a (get_or xs b d) d within_a
                ∙ ap (λ n. get_or xs n d) (sym (from_a k apart same))
            | inr other ↦
                let away : k ≢ a = elim other [ inl less ↦ omega (arith, less) | inr more ↦ omega (arith, more) ] in
                get_or-set_other xs a k (get_or xs b d) d away ∙ ap (λ n. get_or xs n d) (sym (from_other k apart away))
          ]
    ]

    two_swapped : AtTwo xs → AtTwo (swap xs a b)
    two_swapped two i j d apart l m =
        subst (λ x. R x (get_or (swap xs a b) j d)) (sym (at_from i d)) (subst (R (get_or xs (from_place i) d)) (sym (at_from j d))
        (two (from_place i) (from_place j) d (from_apart i j apart) (from_within i (subst (λ n. i < n) (length-swap xs a b) l))
        (from_within j (subst (λ n. j < n) (length-swap xs a b) m))))

  pub pairs_permuted : (xs ys : List A) → AllPairs R xs → IsPermutation xs ys → AllPairs R ys
  pairs_permuted xs ys pairs moved i j d less within =
      IsPermutation-keeps xs AtTwo (two_from_pairs xs pairs) (λ zs a b l m. two_swapped zs a b l m) ys moved i j d (omega arith) (omega arith) within
