-- Turns of the loops that complete products.
use Rattle.std.proofs.Common.{◌≡◌, ◌↔◌, ◌⊎◌, ℕ, ◌+◌, ◌<◌, ◌≤◌, Bool, List, [], length, Some, slice_get, sym, subst, inl, inr, arith}
use Rattle.std.proofs.lemmas.Bool.{cases_order}
use Rattle.std.proofs.lemmas.List.Elements.{All-contains}
use Rattle.esto_term.proofs.ListLemmas.{SomeBelow, Contains-at, some_none, some_step, some_contained}
use Rattle.esto_term.specs.Sets.{Has, Within, Covers}
use Rattle.esto_term.proofs.SetLemmas.{within_trans, Has-within}
use Rattle.esto_bits.specs.Kept.{AreOver, Kept, CoversBoth}
use Rattle.esto_bits.proofs.JoinLemmas.{covers_none}
use Rattle.esto_access.specs.Supplies.{CoversWhere, IsSupplied}
use Rattle.esto_access.proofs.NeedLemmas.{sets_there, supplied_from}
use Rattle.esto_access.specs.Completion.{AreComplete, HaveOwn, IsCompletedIn, IsOneCompletedIn}

-- each kept set is of the count
pub same_count : (products : Kept) → AreOver products.count products.sets → (at : ℕ) (low : List Bool) → slice_get products.sets at ≡ Some low
    → length low ≡ products.count
same_count products over at low is =
    All-contains (λ set. length set ≡ products.count) products.sets low over (Contains-at products.sets at low is)

-- ---- the completions of one set

module _ (supplies : List Kept) (low : List Bool) where
  -- each set covers where the first few numbers of the low set are supplied
  abbrev pub AreCompletedBelow : ℕ → List (List Bool) → Type 0
  AreCompletedBelow count found = (set : List Bool)
      → Covers found set ↔ (Within low set × ((number : ℕ) → number < count → Has low number → IsSupplied supplies set number))

  pub completed_start : (found : List (List Bool)) → ((set : List Bool) → Covers found set ↔ Within low set) → AreCompletedBelow 0 found
  completed_start found covers set = (λ h. ((covers set).0 h, λ number below. absurd (omega (arith, below))), λ (within, _). (covers set).1 within)

  module _ (count : ℕ) (found : List (List Bool)) (so_far : AreCompletedBelow count found) where
    pub completed_grows : Has low count → (products : Kept) → slice_get supplies count ≡ Some products → (after : List (List Bool))
        → CoversBoth found products.sets after → AreCompletedBelow (count + 1) after
    completed_grows has products there after both set =
        let own = sets_there supplies count products there in (
          λ h. let before = (so_far set).0 ((both set).0 h).0 in (
            before.0,
            λ number below in_low. elim (cases_order number count) [
              | inl same ↦ subst (IsSupplied supplies set) (sym same) (subst (λ it. Covers it set) (sym own) ((both set).0 h).1)
              | inr apart ↦ elim apart [ inl earlier ↦ before.1 number earlier in_low | inr after ↦ absurd (omega (arith, below, after)) ]
            ],
          ),
          λ (within, each). (both set).1 (
            (so_far set).1 (within, λ number below in_low. each number (omega (arith, below)) in_low),
            subst (λ it. Covers it set) own
                (each count (omega arith) has),
          ),
        )

    -- where the number is not in the low set, or is supplied in it
    pub completed_stays : (Has low count → IsSupplied supplies low count) → AreCompletedBelow (count + 1) found
    completed_stays supplied set = (
      λ h. let before = (so_far set).0 h in (
        before.0,
        λ number below in_low. elim (cases_order number count) [
          | inl same ↦ (let here = supplied (subst (Has low) same in_low) in subst (IsSupplied supplies set) (sym same)
              (here.0, here.1, within_trans here.0 low set here.2 before.0))
          | inr apart ↦ elim apart [ inl earlier ↦ before.1 number earlier in_low | inr after ↦ absurd (omega (arith, below, after)) ]
        ],
      ),
      λ (within, each). (so_far set).1 (within, λ number below in_low. each number (omega (arith, below)) in_low),
    )

  pub completed_end : HaveOwn supplies → (count : ℕ) (found : List (List Bool)) → length low ≤ count → AreCompletedBelow count found
      → CoversWhere (IsCompletedIn supplies low) found
  completed_end own count found l so_far set = (
    λ h number in_low. ((so_far set).0 h).1 number (omega (arith, Has-within low number in_low, l)) in_low,
    λ each. (so_far set).1 (
      (λ number in_low. let from = supplied_from supplies set number (each number in_low) in from.2.2 number (own number from.0 from.1 from.2.0 from.2.1)),
      (λ number _ in_low. each number in_low),
    ),
  )

-- ---- the completions of all

module _ (supplies : List Kept) (lows : List (List Bool)) where
  -- each set covers where one of the first few low sets is completed
  abbrev pub AreAllCompletedBelow : ℕ → List (List Bool) → Type 0
  AreAllCompletedBelow count found = (set : List Bool) → Covers found set ↔ SomeBelow (λ _ low. IsCompletedIn supplies low set) lows count

  pub all_completed_start : (none : List (List Bool)) → none ≡ [] → AreAllCompletedBelow 0 none
  all_completed_start none is set =
      (λ h. absurd (covers_none set (subst (λ it. Covers it set) is h)), λ h. absurd (some_none (λ _ low. IsCompletedIn supplies low set) lows h))

  pub all_completed_grows : (count : ℕ) (low : List Bool) → slice_get lows count ≡ Some low → (found after : List (List Bool))
      → ((set : List Bool) → Covers after set ↔ (Covers found set ⊎ IsCompletedIn supplies low set)) → AreAllCompletedBelow count found
      → AreAllCompletedBelow (count + 1) after
  all_completed_grows count low at found after grows so_far set =
      let step = some_step (λ _ it. IsCompletedIn supplies it set) lows count low at in (
        λ h. step.1 (elim ((grows set).0 h) [ inl before ↦ inl ((so_far set).0 before) | inr now ↦ inr now ]),
        λ h. (grows set).1 (elim (step.0 h) [ inl before ↦ inl ((so_far set).1 before) | inr now ↦ inr now ]),
      )

  pub all_completed_end : (count : ℕ) (found : List (List Bool)) → length lows ≤ count → AreAllCompletedBelow count found
      → CoversWhere (IsOneCompletedIn supplies lows) found
  all_completed_end count found l so_far set =
      let all = some_contained (λ low. IsCompletedIn supplies low set) lows count l in (λ h. all.0 ((so_far set).0 h), λ h. (so_far set).1 (all.1 h))

-- ---- sets that are their own completions

-- where each of the low sets is complete, what they cover is where one of them is completed
pub covered_completed : (supplies : List Kept) (lows : List (List Bool)) → HaveOwn supplies → AreComplete supplies lows
    → CoversWhere (IsOneCompletedIn supplies lows) lows
covered_completed supplies lows own complete set = (
  λ (low, inside, within). (
    low,
    inside,
    λ number in_low. let here = complete low inside number in_low in (here.0, here.1, within_trans here.0 low set here.2 within),
  ),
  λ (low, inside, completed). (
    low,
    inside,
    λ number in_low. let from = supplied_from supplies set number (completed number in_low) in from.2.2 number (own number from.0 from.1 from.2.0 from.2.1),
  ),
)
