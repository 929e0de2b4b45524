-- What a visit of sets leaves, and that at the end the kept sets are the minimal ones of those that pass.
use Rattle.std.proofs.Common.{◌≡◌, ◌↔◌, ◌⊎◌, inl, inr, ℕ, zero, suc, ◌+◌, ◌<◌, ◌≤◌, Bool, true, false, cond, not, List, [], ◌∷◌, ◌++◌, length, filter, take}
use Rattle.std.proofs.Common.{get_or, slice_get, Contains, Option, Some, None, MatchOption, refl, sym, ap, subst, ◌∙◌, arith}
use Rattle.std.proofs.lemmas.Bool.{cases_order, false≢true}
use Rattle.std.proofs.lemmas.List.{take_more, take_all}
use Rattle.std.proofs.lemmas.Option.{same_Some, slice_get_within}
use Rattle.std.proofs.lemmas.List.Elements.{Contains-append_left, Contains-push, Contains-push_cases}
use Rattle.esto_term.proofs.ChoiceLemmas.{Decided, decided_below, decided_both, decided_not}
use Rattle.esto_term.proofs.ListLemmas.{at_end, Contains-at, Contains-cases, Contains-filter_from, Contains-head, Contains-nil, Contains-rest}
use Rattle.esto_term.specs.Sets.{Has, Within, Covers, IsMinimal, Rises}
use Rattle.esto_term.proofs.SetLemmas.{decided_has, within_trans, within_same, Has-within}
use Rattle.esto_bits.specs.Kept.{IsAntichain, CoversAlso, is_covered, is_within, with_set}
use Rattle.esto_bits.proofs.FamilyLemmas.{antichain-same}
use Rattle.esto_backchase.specs.Searching.{AreFailing, FailsAt, FailsWith, HasOneOf, IsBetween, IsFirstSuperset, IsSupersetAt, IsWithRange, Visited}

-- ---- how many numbers a set lacks

abbrev pub lacks : List Bool → ℕ
lacks [] = 0
lacks (true ∷ rest) = lacks rest
lacks (false ∷ rest) = lacks rest + 1

one_more : (m n : ℕ) → m ≤ n → m + 1 ≤ n + 1
one_more m n below = omega (arith, below)

stays_below : (m n : ℕ) → m ≤ n → m ≤ n + 1
stays_below m n below = omega (arith, below)

less_more : (m n : ℕ) → m < n → m + 1 < n + 1
less_more m n below = omega (arith, below)

stays_less : (m n : ℕ) → m < n → m < n + 1
stays_less m n below = omega (arith, below)

less_one : (m n : ℕ) → m ≤ n → m < n + 1
less_one m n below = omega (arith, below)

lacks-within : (set more : List Bool) → length more ≡ length set → Within set more → lacks more ≤ lacks set
lacks-within [] [] same within = omega arith
lacks-within [] (y ∷ more) same within = absurd (omega (arith, same))
lacks-within (x ∷ set) [] same within = absurd (omega (arith, same))
lacks-within (x ∷ set) (y ∷ more) same within = by x y (within 0) (lacks-within set more (omega (arith, same)) (λ number. within (suc number)))
  where
    by : (x y : Bool) → (x ≡ true → y ≡ true) → lacks more ≤ lacks set → lacks (y ∷ more) ≤ lacks (x ∷ set)
    by true true own rest = rest
    by true false own rest = absurd (false≢true (own refl))
    by false true own rest = stays_below (lacks more) (lacks set) rest
    by false false own rest = one_more (lacks more) (lacks set) rest

-- a set with one number more lacks fewer
pub lacks-fewer : (set more : List Bool) (number : ℕ) → length more ≡ length set → Within set more → Has more number → (Has set number → ⊥)
    → lacks more < lacks set
lacks-fewer set [] number same within has missing = absurd (false≢true has)
lacks-fewer [] (y ∷ more) number same within has missing = absurd (omega (arith, same))
lacks-fewer (x ∷ set) (y ∷ more) zero same within has missing = by x y has missing (lacks-within set more (omega (arith, same)) (λ number. within (suc number)))
  where
    by : (x y : Bool) → y ≡ true → (x ≡ true → ⊥) → lacks more ≤ lacks set → lacks (y ∷ more) < lacks (x ∷ set)
    by true y own none rest = absurd (none refl)
    by false true own none rest = less_one (lacks more) (lacks set) rest
    by false false own none rest = absurd (false≢true own)
lacks-fewer (x ∷ set) (y ∷ more) (suc number) same within has missing =
    by x y (within 0) (lacks-fewer set more number (omega (arith, same)) (λ other. within (suc other)) has missing)
  where
    by : (x y : Bool) → (x ≡ true → y ≡ true) → lacks more < lacks set → lacks (y ∷ more) < lacks (x ∷ set)
    by true true own rest = rest
    by true false own rest = absurd (false≢true (own refl))
    by false true own rest = stays_less (lacks more) (lacks set) rest
    by false false own rest = less_more (lacks more) (lacks set) rest

-- ---- what lies within a set, and what does not

pub outside : (set other : List Bool) → Within set other ⊎ ((number : ℕ) × Has set number × ¬ (Has other number))
outside set other = elim (decided_below Missing (length set) (λ k l. decided_both (decided_has set k) (decided_not (decided_has other k)))) [
  | inl found ↦ inr (found.0, found.2.0, found.2.1)
  | inr none ↦ inl (λ number has. elim (decided_has other number) [
    | inl there ↦ there
    | inr missing ↦ absurd (none (number, Has-within set number has, (has, missing)))
  ])
]
  where
    Missing : ℕ → Type 0
    Missing k = Has set k × ¬ (Has other k)

decided_one : (numbers : List ℕ) (other : List Bool) → Decided (HasOneOf numbers other)
decided_one [] other = inr (λ (number, inside, _). Contains-nil number inside)
decided_one (first ∷ rest) other = elim (decided_has other first) [
  | inl has ↦ inl (first, Contains-head first rest, has)
  | inr missing ↦ elim (decided_one rest other) [
    | inl (number, inside, has) ↦ inl (number, Contains-rest first rest number inside, has)
    | inr none ↦ inr (λ (number, inside, has). elim (Contains-cases first rest number inside) [
      | inl is ↦ missing (subst (Has other) (sym is) has)
      | inr later ↦ none (number, later, has)
    ])
  ]
]

-- ---- a set with a range

module _ (set : List Bool) (from to : ℕ) where
  -- the set has the set's own numbers, and those of the range below a number
  abbrev pub IsFilledBelow : ℕ → List Bool → Type 0
  IsFilledBelow count more = (k : ℕ) → Has more k ↔ (Has set k ⊎ ((from ≤ k) × (k < count) × (k < to)))

  pub filled-none : (more : List Bool) → more ≡ set → IsFilledBelow from more
  filled-none more same k = (
    λ has. inl (subst (λ row. Has row k) same has),
    λ either. elim either [ inl own ↦ subst (λ row. Has row k) (sym same) own | inr (above, below, _) ↦ absurd (omega (arith, above, below)) ],
  )

  pub filled-more : (count : ℕ) (more after : List Bool) → from ≤ count → count < to → ((k : ℕ) → Has after k ↔ ((k ≡ count) ⊎ Has more k))
      → IsFilledBelow count more → IsFilledBelow (count + 1) after
  filled-more count more after above below has filled k = (
    λ h. elim ((has k).0 h) [
      | inl is ↦ inr (omega (arith, above, is), omega (arith, is), omega (arith, below, is))
      | inr old ↦ elim ((filled k).0 old) [ inl own ↦ inl own | inr (after_from, before, inside) ↦ inr (after_from, omega (arith, before), inside) ]
    ],
    λ either. (has k).1 (elim either [
      | inl own ↦ inr ((filled k).1 (inl own))
      | inr (after_from, before, inside) ↦ elim (cases_order k count) [
        | inl is ↦ inl is
        | inr apart ↦ elim apart [
          | inl less ↦ inr ((filled k).1 (inr (after_from, less, inside)))
          | inr more_than ↦ absurd (omega (arith, before, more_than))
        ]
      ]
    ]),
  )

  pub filled-all : (count : ℕ) (more : List Bool) → to ≤ count → length more ≡ length set → IsFilledBelow count more → IsWithRange set from to more
  filled-all count more all same filled = record {
    same_length = same;
    has = λ k. (
      λ h. elim ((filled k).0 h) [ inl own ↦ inl own | inr (above, _, below) ↦ inr (above, below) ],
      λ either. (filled k).1 (elim either [ inl own ↦ inl own | inr (above, below) ↦ inr (above, omega (arith, all, below), below) ]),
    );
  }

-- ---- the numbers that a set lacks

module _ (set : List Bool) where
  -- these are the ones below a number
  abbrev pub AreAbsentBelow : ℕ → List ℕ → Type 0
  AreAbsentBelow count numbers = (k : ℕ) → Contains numbers k ↔ ((k < count) × ¬ (Has set k))

  pub absent-pushed : (count : ℕ) (numbers : List ℕ) → AreAbsentBelow count numbers → (Has set count → ⊥) → AreAbsentBelow (count + 1) (numbers ++ count ∷ [])
  absent-pushed count numbers are missing k = (
    λ inside. elim (Contains-push_cases numbers count k inside) [
      | inl old ↦ (let before = (are k).0 old in (omega (arith, before.0), before.1))
      | inr is ↦ (omega (arith, is), λ has. missing (subst (Has set) (sym is) has))
    ],
    λ (below, lacks_k). elim (cases_order k count) [
      | inl is ↦ subst (Contains (numbers ++ count ∷ [])) (sym is) (Contains-push numbers count)
      | inr apart ↦ elim apart [
        | inl less ↦ Contains-append_left numbers (count ∷ []) k ((are k).1 (less, lacks_k))
        | inr above ↦ absurd (omega (arith, below, above))
      ]
    ],
  )

  pub absent-stays : (count : ℕ) (numbers : List ℕ) → AreAbsentBelow count numbers → Has set count → AreAbsentBelow (count + 1) numbers
  absent-stays count numbers are has k = (
    λ inside. (let before = (are k).0 inside in (omega (arith, before.0), before.1)),
    λ (below, lacks_k). elim (cases_order k count) [
      | inl is ↦ absurd (lacks_k (subst (Has set) (sym is) has))
      | inr apart ↦ elim apart [ inl less ↦ (are k).1 (less, lacks_k) | inr above ↦ absurd (omega (arith, below, above)) ]
    ],
  )

  pub absent-none : (numbers : List ℕ) → numbers ≡ [] → AreAbsentBelow 0 numbers
  absent-none numbers none k = (λ inside. absurd (Contains-nil k (subst (λ its. Contains its k) none inside)), λ (below, _). absurd (omega (arith, below)))

  -- the numbers that a union lacks are those that both sets lack
  pub absent-both : (copied other either : List Bool) (numbers : List ℕ) → copied ≡ set → length either ≡ length copied
      → ((k : ℕ) → Has either k ↔ (Has copied k ⊎ Has other k)) → ((k : ℕ) → Contains numbers k ↔ ((k < length either) × ¬ (Has either k)))
      → (k : ℕ) → Contains numbers k ↔ ((k < length set) × ¬ (Has set k) × ¬ (Has other k))
  absent-both copied other either numbers same counted has are k =
      let count : length either ≡ length set = counted ∙ ap length same in (
        λ inside. (let it = (are k).0 inside in (
          omega (arith, it.0, count),
          λ own. it.1 ((has k).1 (inl (subst (λ row. Has row k) (sym same) own))),
          λ others. it.1 ((has k).1 (inr others)),
        )),
        λ (below, lacks_set, lacks_other). (are k).1 (
          omega (arith, below, count),
          λ both. elim ((has k).0 both) [ inl own ↦ lacks_set (subst (λ row. Has row k) same own) | inr others ↦ lacks_other others ],
        ),
      )

-- ---- families of sets

module _ (set left_out : List Bool) where
  -- the sets between that have one of the first few numbers
  abbrev pub HasOneBelow : List ℕ → ℕ → List Bool → Type 0
  HasOneBelow numbers count other = IsBetween set left_out other × HasOneOf (take count numbers) other

  -- the numbers left out and the first few are earlier ones
  abbrev pub AreEarlier : List ℕ → ℕ → List Bool → Type 0
  AreEarlier numbers count earlier = (number : ℕ) → Has earlier number ↔ (Has left_out number ⊎ Contains (take count numbers) number)

  module _ (numbers : List ℕ) (count number : ℕ) (below : count < length numbers) (read : number ≡ get_or numbers count 0) where
    at_more : (k : ℕ) → Contains (take (count + 1) numbers) k → Contains (take count numbers) k ⊎ (number ≡ k)
    at_more k inside = Contains-push_cases (take count numbers) number k (rw (take_more numbers count 0 below, ← read) at inside)

    at_earlier : (k : ℕ) → Contains (take count numbers) k ⊎ (k ≡ number) → Contains (take (count + 1) numbers) k
    at_earlier k inside = rw (take_more numbers count 0 below, ← read) (elim inside [
      | inl old ↦ Contains-append_left (take count numbers) (number ∷ []) k old
      | inr is ↦ subst (Contains (take count numbers ++ number ∷ [])) (sym is) (Contains-push (take count numbers) number)
    ])

    pub earlier-more : (earlier after : List Bool) → AreEarlier numbers count earlier → ((k : ℕ) → Has after k ↔ ((k ≡ number) ⊎ Has earlier k))
        → AreEarlier numbers (count + 1) after
    earlier-more earlier after are has k = (
      λ h. elim ((has k).0 h) [
        | inl is ↦ inr (at_earlier k (inr is))
        | inr old ↦ elim ((are k).0 old) [ inl out ↦ inl out | inr inside ↦ inr (at_earlier k (inl inside)) ]
      ],
      λ h. (has k).1 (elim h [
        | inl out ↦ inr ((are k).1 (inl out))
        | inr inside ↦ elim (at_more k inside) [ inl old ↦ inr ((are k).1 (inr old)) | inr is ↦ inl (sym is) ]
      ]),
    )

    -- such a set has one of the numbers before the next one, or it has that one and none before it
    pub one-splits : (earlier : List Bool) → AreEarlier numbers count earlier → (other : List Bool) → HasOneBelow numbers (count + 1) other
        → HasOneBelow numbers count other ⊎ (IsBetween set earlier other × Has other number)
    one-splits earlier are other (between, (k, inside, has)) = elim (decided_one (take count numbers) other) [
      | inl one ↦ inl (between, one)
      | inr none ↦ inr (
        record {
          same_length = between.same_length;
          has = between.has;
          lacks = λ j out in_other. elim ((are j).0 out) [
            | inl left ↦ between.lacks j left in_other
            | inr old ↦ none (j, old, in_other)
          ];
        },
        elim (at_more k inside) [
          | inl old ↦ absurd (none (k, old, has))
          | inr here ↦ subst (Has other) (sym here) has
        ],
      )
    ]

  -- a set between that has one number more is between the set with that number and the ones left out
  pub between-more : (more other : List Bool) (number : ℕ) → length more ≡ length set → ((k : ℕ) → Has more k ↔ ((k ≡ number) ⊎ Has set k))
      → IsBetween set left_out other → Has other number → IsBetween more left_out other
  between-more more other number same has_more between has = record {
    same_length = between.same_length ∙ sym same;
    has = λ j in_more. elim ((has_more j).0 in_more) [ inl is ↦ subst (Has other) (sym is) has | inr own ↦ between.has j own ];
    lacks = between.lacks;
  }

  pub one-none : (numbers : List ℕ) (other : List Bool) → HasOneBelow numbers 0 other → ⊥
  one-none numbers other (_, (k, inside, _)) = Contains-nil k inside

  pub one-all : (numbers : List ℕ) (count : ℕ) → length numbers ≤ count → (other : List Bool) → IsBetween set left_out other × HasOneOf numbers other
      → HasOneBelow numbers count other
  one-all numbers count all other (between, (k, inside, has)) = (between, (k, rw (take_all count numbers all) inside, has))

  pub earlier-none : (numbers : List ℕ) → AreEarlier numbers 0 left_out
  earlier-none numbers k = (λ h. inl h, λ h. elim h [ inl out ↦ out | inr inside ↦ absurd (Contains-nil k inside) ])

-- all sets of a count are between the set of no number and all
pub all-between : (none other : List Bool) → ((number : ℕ) → Has none number → ⊥) → length other ≡ length none → IsBetween none none other
all-between none other empty same = record { same_length = same; has = λ number has. absurd (empty number has); lacks = λ number has _. empty number has }

-- ---- what is kept after one set more

-- it was kept before, or is the set
added : (sets : List (List Bool)) (row set : List Bool) → Contains (with_set sets row) set → Contains sets set ⊎ (set ≡ row)
added sets row set inside = by (is_covered sets row) inside
  where
    by : (covered : Bool) → Contains (cond covered sets (filter (λ other. not (is_within row other)) sets ++ row ∷ [])) set → Contains sets set ⊎ (set ≡ row)
    by true inside = inl inside
    by false inside = elim (Contains-push_cases (filter (λ other. not (is_within row other)) sets) row set inside) [
      | inl kept ↦ inl (Contains-filter_from (λ other. not (is_within row other)) sets set kept).0
      | inr is ↦ inr (sym is)
    ]

-- ---- sets that do not pass

-- a set that lacks a number of the set is no superset at its place
pub not_superset : (sets : List (List Bool)) (set : List Bool) (place : ℕ) (own : List Bool) → slice_get sets place ≡ Some own → ¬ (Within set own)
    → (at : ℕ) → at ≡ place → ¬ (IsSupersetAt sets set at)
not_superset sets set place own here lacks at same (other, there, within) =
    lacks (subst (Within set) (same_Some other own (sym there ∙ ap (slice_get sets) same ∙ here)) within)

module _ (count : ℕ) (Pass : List Bool → Type 0) where
  pub failing-none : AreFailing count Pass []
  failing-none set inside = absurd (Contains-nil set inside)

  pub failing-pushed : (failing after : List (List Bool)) (set failed : List Bool) → AreFailing count Pass failing → FailsWith count Pass set failed
      → after ≡ failing ++ failed ∷ [] → AreFailing count Pass after
  failing-pushed failing after set failed are fails pushed other inside =
      elim (Contains-push_cases failing failed other (subst (λ sets. Contains sets other) pushed inside)) [
        | inl old ↦ are other old
        | inr is ↦ (sym (ap length is) ∙ fails.same_length, subst (λ it. ¬ (Pass it)) is fails.fails)
      ]

  -- the place of a known set, where one is found
  pub fails-known : (failing : List (List Bool)) (set : List Bool) (outcome : Option ℕ) (place : ℕ) → AreFailing count Pass failing
      → IsFirstSuperset failing set outcome → outcome ≡ Some place → FailsAt count Pass failing set place
  fails-known failing set outcome place are found is =
      let first = subst (IsFirstSuperset failing set) is found in
      let (other, here, within) = first.0 in
      let known = are other (Contains-at failing place other here) in
      (other, here, record { same_length = known.0; within = within; fails = known.1 })

  -- the place of one that is put at the end
  pub fails-pushed : (failing after : List (List Bool)) (set failed : List Bool) (place : ℕ) → FailsWith count Pass set failed
      → after ≡ failing ++ failed ∷ [] → place ≡ length failing → FailsAt count Pass after set place
  fails-pushed failing after set failed place fails pushed counted =
      (failed, rw (pushed, counted) (at_end failing failed), fails)

  pub fails-own : (set : List Bool) → length set ≡ count → (Pass set → ⊥) → FailsWith count Pass set set
  fails-own set same fails = record { same_length = same; within = λ number has. has; fails = fails }

  pub fails-further : (set failed after : List Bool) → FailsWith count Pass set failed → FailsWith count Pass failed after → FailsWith count Pass set after
  fails-further set failed after first second = record
      { same_length = second.same_length; within = within_trans set failed after first.within second.within; fails = second.fails }

  -- the set with a range, where it does not pass
  pub fails-with_range : (from to : ℕ) (outcome : Option (List Bool)) (set more : List Bool) → length set ≡ count
      → MatchOption outcome ((other : List Bool) × IsWithRange set from to other × Pass other) (λ other. IsWithRange set from to other × ¬ (Pass other))
      → outcome ≡ Some more → FailsWith count Pass set more
  fails-with_range from to outcome set more same says is =
      let (range, fails) = subst (λ it. MatchOption it ((other : List Bool) × IsWithRange set from to other × Pass other)
      (λ other. IsWithRange set from to other × ¬ (Pass other))) is says in
      record { same_length = range.same_length ∙ same; within = λ number has. (range.has number).1 (inl has); fails = fails }

  module _ (failing : List (List Bool)) (set : List Bool) (outcome : Option ℕ) (says : MatchOption outcome (Pass set) (FailsAt count Pass failing set)) where
    pub none-passes : outcome ≡ None → Pass set
    none-passes is = subst (λ it. MatchOption it (Pass set) (FailsAt count Pass failing set)) is says

    pub some-fails : (place : ℕ) → outcome ≡ Some place → FailsAt count Pass failing set place
    some-fails place is = subst (λ it. MatchOption it (Pass set) (FailsAt count Pass failing set)) is says

  module _ (failing : List (List Bool)) (set : List Bool) (place : ℕ) (at : FailsAt count Pass failing set place) where
    pub fails-within : place < length failing
    fails-within = slice_get_within failing place at.0 at.1

    -- the set that is read at the place fails
    pub fails-there : (read : List Bool) → slice_get failing place ≡ Some read → FailsWith count Pass set read
    fails-there read there = subst (FailsWith count Pass set) (same_Some at.0 read (sym at.1 ∙ there)) at.2

  module _ (set left_out failed : List Bool) (fails : FailsWith count Pass set failed) (numbers its : List ℕ)
      (exact : (number : ℕ) → Contains numbers number ↔ ((number < length failed) × ¬ (Has failed number) × ¬ (Has left_out number)))
      (same : its ≡ numbers) where
    -- each number that is not left out and is outside of one that fails is a number of the count that the set lacks
    pub further-lacks : (number : ℕ) → Contains its number → (number < count) × ¬ (Has set number)
    further-lacks number inside =
        let it = (exact number).0 (subst (λ those. Contains those number) same inside) in
        (omega (arith, it.0, fails.same_length), λ has. it.1 (fails.within number has))

    -- a set between that passes has one of them
    pub passing-has : Rises count Pass → length set ≡ count → (other : List Bool) → IsBetween set left_out other → Pass other → HasOneOf its other
    passing-has rises counted other between passes =
        let over : length other ≡ count = between.same_length ∙ counted in
        elim (outside other failed) [
          | inl within ↦ absurd (fails.fails (rises other failed over fails.same_length within passes))
          | inr (number, has, missing) ↦ (
            number,
            subst (λ those. Contains those number) (sym same)
                ((exact number).1 (omega (arith, Has-within other number has, over, fails.same_length), missing, λ out. between.lacks number out has)),
            has,
          )
        ]

-- ---- visits

module _ (Pass : List Bool → Type 0) where
  -- a family whose sets are covered already
  pub visited-covered : (Family : List Bool → Type 0) (sets : List (List Bool)) (row : List Bool) → Covers sets row
      → ((set : List Bool) → Family set → Within row set)
      → Visited Pass Family sets sets
  visited-covered Family sets row covered within = record {
    each = λ set inside. inl inside;
    still = λ set covers. covers;
    covers = λ set is_in passes. (covered.0, covered.1, within_trans covered.0 row set covered.2 (within set is_in));
  }

  -- a family of no set
  pub visited-none : (Family : List Bool → Type 0) (sets : List (List Bool)) → ((set : List Bool) → Family set → ⊥) → Visited Pass Family sets sets
  visited-none Family sets none = record {
    each = λ set inside. inl inside;
    still = λ set covers. covers;
    covers = λ set is_in passes. absurd (none set is_in);
  }

  -- a family whose sets all have one within them that passes and is added
  pub visited-added : (Family : List Bool → Type 0) (sets later : List (List Bool)) (row : List Bool) → Pass row
      → ((set : List Bool) → Family set → Within row set)
      → later ≡ with_set sets row → CoversAlso sets row later → Visited Pass Family sets later
  visited-added Family sets later row passes within is also = record {
    each = λ set inside. elim (added sets row set (subst (λ family. Contains family set) is inside)) [
      | inl old ↦ inl old
      | inr same ↦ inr (subst Pass (sym same) passes)
    ];
    still = λ set covers. (also set).1 (inl covers);
    covers = λ set is_in _. (also set).1 (inr (within set is_in));
  }

  -- a family whose sets that pass are of another family
  pub visited-as : (Family Other : List Bool → Type 0) (sets later : List (List Bool)) → Visited Pass Other sets later
      → ((set : List Bool) → Family set → Pass set → Other set) → Visited Pass Family sets later
  visited-as Family Other sets later visited goes = record {
    each = visited.each;
    still = visited.still;
    covers = λ set is_in passes. visited.covers set (goes set is_in passes) passes;
  }

  -- one family after another
  pub visited-both : (Family First Second : List Bool → Type 0) (sets middle later : List (List Bool)) → Visited Pass First sets middle
      → Visited Pass Second middle later
      → ((set : List Bool) → Family set → First set ⊎ Second set) → Visited Pass Family sets later
  visited-both Family First Second sets middle later first second splits = record {
    each = λ set inside. elim (second.each set inside) [ inl old ↦ first.each set old | inr passes ↦ inr passes ];
    still = λ set covers. second.still set (first.still set covers);
    covers = λ set is_in passes. elim (splits set is_in) [
      | inl one ↦ second.still set (first.covers set one passes)
      | inr other ↦ second.covers set other passes
    ];
  }

  -- at the end the kept sets are the minimal ones of those that pass
  pub visited-minimal : (count : ℕ) (Family : List Bool → Type 0) (sets : List (List Bool)) → ((set : List Bool) → Pass set → length set ≡ count)
      → ((set : List Bool) → Pass set → Family set) → IsAntichain sets → Visited Pass Family [] sets
      → (set : List Bool) → Contains sets set ↔ IsMinimal Pass set
  visited-minimal count Family sets counted all antichain visited set = (
    λ inside. (
      passes set inside,
      λ other passes_other within.
          let by = visited.covers other (all other passes_other) passes_other in
          let same : by.0 ≡ set = antichain-same sets antichain by.0 set by.1 inside (within_trans by.0 other set by.2 within) in
          within_same other set (counted other passes_other ∙ sym (counted set (passes set inside))) within
          (subst (λ low. Within low other) same by.2),
    ),
    λ minimal.
        let by = visited.covers set (all set minimal.0) minimal.0 in
        subst (Contains sets) (minimal.1 by.0 (passes by.0 by.1) by.2) by.1,
  )
    where
      passes : (kept : List Bool) → Contains sets kept → Pass kept
      passes kept inside = elim (visited.each kept inside) [ inl old ↦ absurd (Contains-nil kept old) | inr is ↦ is ]
