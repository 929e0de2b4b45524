-- Sets, their order, and the minimal sets of a family.
use Rattle.std.proofs.Common.{◌≡◌, ◌≢◌, ℕ, zero, suc, ◌+◌, ◌<◌, Bool, true, false, List, [], ◌∷◌, map, length, get_or, refl, sym, ap, ◌∙◌, subst, arith, inl}
use Rattle.std.proofs.Common.{inr, slice_set, replicate}
use Rattle.std.specs.Prelude.{◌⊎◌, ◌↔◌, Contains, AllPairs}
use Rattle.std.specs.Cmp.{IsTotalOrder}
use Rattle.std.specs.Ordering.{nat_cmp}
use Rattle.std.specs.declared.cmp.Ordering.TheVariants.{Less, Equal}
use Rattle.std.proofs.lemmas.Bool.{false≢true, cases_Bool, or_cases, or_left, or_right, cases_eq}
use Rattle.std.proofs.lemmas.Cmp.{nat_cmp_total, nat_list_cmp_total, on_total, then_total, tied_itself}
use Rattle.std.proofs.lemmas.List.{get_or_default, get_or-set_same, get_or-set_other}
use Rattle.std.proofs.lemmas.List.Elements.{Contains-append_left, Contains-append_right, Contains-append_cases}
use Rattle.std.proofs.lemmas.Map.Lookups.{exact_bytes}
use Rattle.esto_term.specs.Sets.{Has, Within, numbers_from, numbers, set_cmp, IsMinimal, united, HaveOneCount, AreInOrder, all_sets}
use Rattle.esto_term.specs.SetLaws.{EqualIsSame, NumbersTellSets, WithinBothWays, OrderIsOne, AllSetsAreListed, MinimalAreApart, MinimalCover}
use Rattle.esto_term.specs.SetLaws.{MinimalExist, MinimalAreOne}
use Rattle.esto_term.proofs.ChoiceLemmas.{Decided, decided_below, decided_both, decided_not, in_order, kept, not_less_itself, one_list, pairs_append}
use Rattle.esto_term.proofs.ChoiceLemmas.{pairs_cons, pairs_map, same_truth}
use Rattle.esto_term.proofs.ListLemmas.{Contains-cases, Contains-head, Contains-map, Contains-map_from, Contains-nil, Contains-rest}
use Rattle.esto_term.proofs.TotalOrderLemmas.{next_equal}

-- ---- numbers that pass a test, and the last number of a set

-- the set of the numbers below a count that pass a test
abbrev pub passing : (ℕ → Bool) → ℕ → List Bool
passing test zero = []
passing test (suc count) = test 0 ∷ passing (λ number. test (suc number)) count

pub length-passing : (test : ℕ → Bool) (count : ℕ) → length (passing test count) ≡ count
length-passing test zero = refl
length-passing test (suc count) = ap suc (length-passing (λ number. test (suc number)) count)

pub passing-Has : (test : ℕ → Bool) (count number : ℕ) → Has (passing test count) number ↔ ((number < count) × (test number ≡ true))
passing-Has test zero number = ((λ has. absurd (cc)), (λ both. absurd (omega (arith, both.0))))
passing-Has test (suc count) zero = ((λ has. (omega arith, has)), (λ both. both.1))
passing-Has test (suc count) (suc number) =
    let rest = passing-Has (λ it. test (suc it)) count number in (
      (λ has. let both = rest.0 has in (omega (arith, both.0), both.1)),
      (λ both. rest.1 (omega (arith, both.0), both.1)),
    )

pub Has-within : (set : List Bool) (number : ℕ) → Has set number → number < length set
Has-within [] number has = absurd (cc)
Has-within (first ∷ rest) zero has = omega arith
Has-within (first ∷ rest) (suc number) has = let below = Has-within rest number has in omega arith

-- ---- numbers of a set

pub decided_has : (set : List Bool) (number : ℕ) → Decided (Has set number)
decided_has set number = elim (cases_Bool (get_or set number false)) [ inl e ↦ inl e | inr e ↦ inr (λ h. false≢true (sym e ∙ h)) ]

pub within_refl : (set : List Bool) → Within set set
within_refl set number h = h

pub within_trans : (set other third : List Bool) → Within set other → Within other third → Within set third
within_trans set other third f g number h = g number (f number h)

pub decided_within : (set other : List Bool) → Decided (Within set other)
decided_within set other = elim (decided_below Missing (length set) (λ k l. decided_both (decided_has set k) (decided_not (decided_has other k)))) [
  | inl found ↦ inr (λ within. found.2.1 (within found.0 found.2.0))
  | inr none ↦ inl (λ number h. elim (decided_has other number) [
    | inl there ↦ there
    | inr missing ↦ absurd (none (number, Has-within set number h, (h, missing)))
  ])
]
  where
    Missing : ℕ → Type 0
    Missing k = Has set k × (Has other k → ⊥)

pub within_same : WithinBothWays
within_same [] [] e f g = refl
within_same [] (y ∷ others) e f g = absurd (omega (arith, e))
within_same (x ∷ set) [] e f g = absurd (omega (arith, e))
within_same (x ∷ set) (y ∷ others) e f g =
    ap (λ z. z ∷ set) (same_truth x y (f 0) (g 0)) ∙ ap (λ zs. y ∷ zs) (within_same set others (omega (arith, e)) (λ k. f (suc k)) (λ k. g (suc k)))

pub numbers_tell : NumbersTellSets
numbers_tell set other e same = within_same set other e (λ k. (same k).0) (λ k. (same k).1)

-- ---- the rising list of a set's numbers

pub number_there : (from : ℕ) (set : List Bool) (k : ℕ) → Has set k → Contains (numbers_from from set) (from + k)
number_there from [] k h = absurd (false≢true h)
number_there from (true ∷ set) zero h = let e : from ≡ from + 0 = omega arith in subst (Contains (from ∷ numbers_from (from + 1) set)) e (Contains-head from _)
number_there from (false ∷ set) zero h = absurd (false≢true h)
number_there from (true ∷ set) (suc k) h =
    let e : from + 1 + k ≡ from + suc k = omega arith in
    subst (Contains (from ∷ numbers_from (from + 1) set)) e (Contains-rest from _ _ (number_there (from + 1) set k h))
number_there from (false ∷ set) (suc k) h =
    let e : from + 1 + k ≡ from + suc k = omega arith in
    subst (Contains (numbers_from (from + 1) set)) e (number_there (from + 1) set k h)

pub number_back : (from : ℕ) (set : List Bool) (number : ℕ) → Contains (numbers_from from set) number → (k : ℕ) × (number ≡ from + k) × Has set k
number_back from [] number h = absurd (Contains-nil number h)
number_back from (true ∷ set) number h = elim (Contains-cases from _ number h) [
  | inl e ↦ (0, omega (arith, e), refl)
  | inr later ↦ (let rest = number_back (from + 1) set number later in (suc rest.0, omega (arith, rest.1), rest.2))
]
number_back from (false ∷ set) number h = let rest = number_back (from + 1) set number h in (suc rest.0, omega (arith, rest.1), rest.2)

pub numbers_have : (set : List Bool) (number : ℕ) → Contains (numbers set) number ↔ Has set number
numbers_have set number = (
  λ h. let back = number_back 0 set number h in let e : back.0 ≡ number = omega (arith, back.1) in subst (Has set) e back.2,
  λ h. let e : 0 + number ≡ number = omega arith in subst (Contains (numbers set)) e (number_there 0 set number h),
)

pub numbers_rise : (from : ℕ) (set : List Bool) → AllPairs ◌<◌ (numbers_from from set)
numbers_rise from [] = λ i j d l m. absurd (omega (arith, m))
numbers_rise from (true ∷ set) =
    pairs_cons ◌<◌ from (numbers_from (from + 1) set) (λ z h. let back = number_back (from + 1) set z h in omega (arith, back.1)) (numbers_rise (from + 1) set)
numbers_rise from (false ∷ set) = numbers_rise (from + 1) set

-- ---- the order

pub set_cmp_total : IsTotalOrder set_cmp
set_cmp_total = then_total (on_total (λ set. length (numbers set)) nat_cmp_total) (on_total numbers nat_list_cmp_total)

pub equal_numbers : (set other : List Bool) → set_cmp set other ≡ Equal → numbers set ≡ numbers other
equal_numbers set other e = exact_bytes (numbers set) (numbers other) (next_equal (nat_cmp (length (numbers set)) (length (numbers other))) _ e)

pub equal_sets : (set other : List Bool) → length set ≡ length other → set_cmp set other ≡ Equal → set ≡ other
equal_sets set other l e =
    numbers_tell set other l (λ k. (
      λ h. (numbers_have other k).0 (subst (λ ns. Contains ns k) (equal_numbers set other e) ((numbers_have set k).1 h)),
      λ h. (numbers_have set k).0 (subst (λ ns. Contains ns k) (sym (equal_numbers set other e)) ((numbers_have other k).1 h)),
    ))

pub equal_is_same : EqualIsSame
equal_is_same set other l = (equal_sets set other l, λ e. subst (λ z. set_cmp set z ≡ Equal) e (tied_itself set_cmp_total set))

pub order_is_one : OrderIsOne
order_is_one = one_list set_cmp set_cmp_total

pub in_order_once : (sets : List (List Bool)) → AreInOrder sets → AllPairs ◌≢◌ sets
in_order_once sets ordered i j d l m e =
    not_less_itself set_cmp set_cmp_total (get_or sets j d) (subst (λ z. set_cmp z (get_or sets j d) ≡ Less) e (ordered i j d l m))

-- ---- unions

pub has_united : (set other : List Bool) (number : ℕ) → Has (united set other) number ↔ (Has set number ⊎ Has other number)
has_united [] other number = (inr, λ h. elim h [ inl none ↦ absurd (false≢true none) | inr there ↦ there ])
has_united (x ∷ set) [] number = (inl, λ h. elim h [ inl there ↦ there | inr none ↦ absurd (false≢true none) ])
has_united (x ∷ set) (y ∷ others) zero = (or_cases x y, λ h. elim h [ inl e ↦ or_left x y e | inr e ↦ or_right x y e ])
has_united (x ∷ set) (y ∷ others) (suc number) = has_united set others number

pub length-united : (set other : List Bool) → length set ≡ length other → length (united set other) ≡ length set
length-united [] [] e = refl
length-united [] (y ∷ others) e = absurd (omega (arith, e))
length-united (x ∷ set) [] e = refl
length-united (x ∷ set) (y ∷ others) e = ap suc (length-united set others (omega (arith, e)))

-- ---- all sets of a count

sets_have : (count : ℕ) (set : List Bool) → length set ≡ count → Contains (all_sets count) set
sets_have zero [] e = Contains-head [] []
sets_have zero (x ∷ set) e = absurd (omega (arith, e))
sets_have (suc count) [] e = absurd (omega (arith, e))
sets_have (suc count) (true ∷ set) e = Contains-append_left _ _ _ (Contains-map (λ zs. true ∷ zs) (all_sets count) set (sets_have count set (omega (arith, e))))
sets_have (suc count) (false ∷ set) e =
    Contains-append_right _ _ _ (Contains-map (λ zs. false ∷ zs) (all_sets count) set (sets_have count set (omega (arith, e))))

pub sets_count : (count : ℕ) (set : List Bool) → Contains (all_sets count) set → length set ≡ count
sets_count zero set h = elim (Contains-cases [] [] set h) [ inl e ↦ sym (ap length e) | inr none ↦ absurd (Contains-nil set none) ]
sets_count (suc count) set h = elim (Contains-append_cases (map (λ zs. true ∷ zs) (all_sets count)) (map (λ zs. false ∷ zs) (all_sets count)) set h) [
  | inl left ↦ (let back = Contains-map_from (λ zs. true ∷ zs) (all_sets count) set left in sym (ap length back.2) ∙ ap suc (sets_count count back.0 back.1))
  | inr right ↦ (let back = Contains-map_from (λ zs. false ∷ zs) (all_sets count) set right in sym (ap length back.2) ∙ ap suc (sets_count count back.0 back.1))
]

abbrev first_of_set : List Bool → Bool
first_of_set set = get_or set 0 false

abbrev rest_of_set : List Bool → List Bool
rest_of_set [] = []
rest_of_set (x ∷ set) = set

sets_once : (count : ℕ) → AllPairs ◌≢◌ (all_sets count)
sets_once zero = λ i j d l m. absurd (omega (arith, l, m))
sets_once (suc count) =
    pairs_append ◌≢◌ _ _
    (pairs_map (λ zs. true ∷ zs) ◌≢◌ ◌≢◌ (λ x y apart e. apart (ap rest_of_set e)) (all_sets count) (sets_once count))
    (pairs_map (λ zs. false ∷ zs) ◌≢◌ ◌≢◌ (λ x y apart e. apart (ap rest_of_set e)) (all_sets count) (sets_once count))
    (λ x y h k e.
    let left = Contains-map_from (λ zs. true ∷ zs) (all_sets count) x h in
    let right = Contains-map_from (λ zs. false ∷ zs) (all_sets count) y k in
    false≢true (ap first_of_set (right.2 ∙ sym e ∙ sym left.2)))

pub all_sets_are_listed : AllSetsAreListed
all_sets_are_listed count = (λ set. (sets_count count set, sets_have count set), sets_once count)

-- ---- minimal sets

pub decided_minimal : (family : List (List Bool)) → HaveOneCount family → (set : List Bool) → Contains family set → Decided (IsMinimal (Contains family) set)
decided_minimal family counted set there =
    elim (decided_below Smaller (length family)
    (λ k l. decided_both (decided_within (get_or family k []) set) (decided_not (decided_within set (get_or family k []))))) [
      | inl found ↦ inr (λ is_minimal. found.2.1 (
          let at : List Bool = get_or family found.0 [] in
          let e : at ≡ set = is_minimal.1 at (found.0, found.1, get_or_default family found.0 at [] found.1) found.2.0 in
          subst (λ z. Within set z) (sym e) (within_refl set)))
      | inr none ↦ inl (there, λ other h w. within_same other set (counted other set h there) w (back other h w none))
    ]
  where
    Smaller : ℕ → Type 0
    Smaller k = Within (get_or family k []) set × (Within set (get_or family k []) → ⊥)

    back : (other : List Bool) → Contains family other → Within other set → ((k : ℕ) × (k < length family) × Smaller k → ⊥) → Within set other
    back other h w none =
        let e : get_or family h.0 [] ≡ other = get_or_default family h.0 [] other h.1 ∙ h.2 in
        elim (decided_within set other) [
          | inl there ↦ there
          | inr apart ↦ absurd (none (h.0, h.1, (subst (λ z. Within z set) (sym e) w, λ back. apart (subst (λ z. Within set z) e back))))
        ]

-- Going through a list of sets, take each that is within the one taken so far: no set of the list is a proper subset of the last.
record IsLow (sets : List (List Bool)) (start low : List Bool) : Type 0 where
  within : Within low start
  there : Contains (start ∷ sets) low
  least : (set : List Bool) → Contains sets set → Within set low → Within low set

lowest : (sets : List (List Bool)) (start : List Bool) → (low : List Bool) × IsLow sets start low
lowest [] start = (start, record { within = within_refl start; there = Contains-head start []; least = λ set h. absurd (Contains-nil set h) })
lowest (set ∷ sets) start = go (decided_within set start) (lowest sets set) (lowest sets start)
  where
    go : Decided (Within set start) → ((low : List Bool) × IsLow sets set low) → ((low : List Bool) × IsLow sets start low)
        → (low : List Bool) × IsLow (set ∷ sets) start low
    go (inl w) rest other = (
      rest.0,
      record {
        within = within_trans rest.0 set start (rest.1).within w;
        there = Contains-rest start (set ∷ sets) rest.0 (rest.1).there;
        least = λ z h v. elim (Contains-cases set sets z h) [ inl e ↦ subst (Within rest.0) e (rest.1).within | inr later ↦ (rest.1).least z later v ];
      },
    )
    go (inr apart) other rest = (
      rest.0,
      record {
        within = (rest.1).within;
        there = elim (Contains-cases start sets rest.0 (rest.1).there) [
          | inl e ↦ subst (Contains (start ∷ set ∷ sets)) e (Contains-head start (set ∷ sets))
          | inr later ↦ Contains-rest start (set ∷ sets) rest.0 (Contains-rest set sets rest.0 later)
        ];
        least = λ z h v. elim (Contains-cases set sets z h) [
          | inl e ↦ absurd (apart (subst (λ a. Within a start) (sym e) (within_trans z rest.0 start v (rest.1).within)))
          | inr later ↦ (rest.1).least z later v
        ];
      },
    )

-- each set of the family has a minimal one within it
pub minimal_within : (family : List (List Bool)) → HaveOneCount family → (set : List Bool) → Contains family set
    → (low : List Bool) × IsMinimal (Contains family) low × Within low set
minimal_within family counted set there =
    let found = lowest family set in
    let in_family : Contains family found.0 =
    elim (Contains-cases set family found.0 (found.1).there) [ inl e ↦ subst (Contains family) e there | inr h ↦ h ] in
    (found.0, (in_family, λ other h w. within_same other found.0 (counted other found.0 h in_family) w ((found.1).least other h w)), (found.1).within)

pub minimal_cover : MinimalCover
minimal_cover family minimal are set there =
    let found = minimal_within family are.counted set there in
    (found.0, (are.exact found.0).1 found.1, found.2)

pub minimal_are_apart : MinimalAreApart
minimal_are_apart family minimal are set other h k w = ((are.exact other).0 k).1 set ((are.exact set).0 h).0 w

pub minimal_are_one : MinimalAreOne
minimal_are_one family minimal others are are' set = (λ h. (are'.exact set).1 ((are.exact set).0 h), λ h. (are.exact set).1 ((are'.exact set).0 h))

pub minimal_exist : MinimalExist
minimal_exist family counted =
    let some = kept (IsMinimal (Contains family)) family (decided_minimal family counted) in
    let ordered = in_order set_cmp set_cmp_total some.0
    (λ set other h k. equal_sets set other (counted set other ((some.1 set).0 h).0 ((some.1 other).0 k).0)) in (
      ordered.0,
      record {
        counted = counted;
        exact = λ set. (λ h. ((some.1 set).0 ((ordered.1 set).0 h)).1, λ is_minimal. (ordered.1 set).1 ((some.1 set).1 (is_minimal.0, is_minimal)));
        once = in_order_once ordered.0 ordered.2;
      },
      ordered.2,
    )

-- ---- numbers that are missing from a set

abbrev pub missing : List Bool → ℕ
missing [] = 0
missing (true ∷ part) = missing part
missing (false ∷ part) = suc (missing part)

pub missing-set : (part : List Bool) (number : ℕ) → number < length part → (Has part number → ⊥) → suc (missing (slice_set part number true)) ≡ missing part
missing-set [] number l absent = absurd (omega (arith, l))
missing-set (true ∷ part) zero l absent = absurd (absent refl)
missing-set (false ∷ part) zero l absent = refl
missing-set (true ∷ part) (suc number) l absent = missing-set part number (omega (arith, l)) absent
missing-set (false ∷ part) (suc number) l absent = ap suc (missing-set part number (omega (arith, l)) absent)

pub has_set : (part : List Bool) (number : ℕ) → number < length part → (other : ℕ)
    → Has (slice_set part number true) other ↔ ((number ≡ other) ⊎ Has part other)
has_set part number l other = (
  λ h. elim (cases_eq number other) [
    | inl e ↦ inl e
    | inr apart ↦ inr (sym (get_or-set_other part number other true false (λ e. apart (sym e))) ∙ h)
  ],
  λ h. elim (cases_eq number other) [
    | inl e ↦ subst (Has (slice_set part number true)) e (get_or-set_same part number true false l)
    | inr apart ↦ elim h [ inl e ↦ absurd (apart e) | inr there ↦ get_or-set_other part number other true false (λ e. apart (sym e)) ∙ there ]
  ],
)

pub none_has : (count number : ℕ) → Has (replicate count false) number → ⊥
none_has zero number h = false≢true h
none_has (suc count) zero h = false≢true h
none_has (suc count) (suc number) h = none_has count number h
