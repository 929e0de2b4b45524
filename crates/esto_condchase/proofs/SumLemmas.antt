-- Loops that gather, item by item, what is so of some item.
use Rattle.std.proofs.Common.{◌≡◌, ◌⊎◌, ◌↔◌, ◌<◌, ◌≤◌, ◌+◌, inl, inr, ℕ, List, length, get_or, slice_get, Some, Contains, arith}
use Rattle.esto_term.proofs.ListLemmas.{SomeBelow, some_step, some_contained}
use Rattle.esto_term.proofs.PlaceLemmas.{item_at}

module _ {I A : Type 0} (P : I → A → Type 0) (items : List A) where
  -- what is gathered is so at an index just where it is so of one of the first few items
  abbrev pub Gathers : ℕ → (I → Type 0) → Type 0
  Gathers count Now = (i : I) → Now i ↔ SomeBelow (λ _ item. P i item) items count

  pub gathers_at : (count : ℕ) (item : A) (Now Later : I → Type 0) → slice_get items count ≡ Some item → Gathers count Now
      → ((i : I) → Later i ↔ (Now i ⊎ P i item)) → Gathers (count + 1) Later
  gathers_at count item Now Later at so_far step i =
      let more = some_step (λ _ it. P i it) items count item at in (
        (λ later. more.1 (elim ((step i).0 later) [ inl now ↦ inl ((so_far i).0 now) | inr here ↦ inr here ])),
        (λ below. (step i).1 (elim (more.0 below) [ inl before ↦ inl ((so_far i).1 before) | inr here ↦ inr here ])),
      )

  pub gathers_more : (count : ℕ) (item : A) (Now Later : I → Type 0) → count < length items → item ≡ get_or items count item → Gathers count Now
      → ((i : I) → Later i ↔ (Now i ⊎ P i item)) → Gathers (count + 1) Later
  gathers_more count item Now Later within is = gathers_at count item Now Later (item_at items count item within is)

  pub gathers_all : (count : ℕ) (Now : I → Type 0) → length items ≤ count → Gathers count Now → (i : I) → Now i ↔ ((item : A) × Contains items item × P i item)
  gathers_all count Now past so_far i =
      let all = some_contained (P i) items count past in ((λ now. all.0 ((so_far i).0 now)), (λ some. (so_far i).1 (all.1 some)))

  -- the same beside what was so before
  abbrev pub GathersOver : (I → Type 0) → ℕ → (I → Type 0) → Type 0
  GathersOver Before count Now = (i : I) → Now i ↔ (Before i ⊎ SomeBelow (λ _ item. P i item) items count)

  pub gathers_over : (Before : I → Type 0) → GathersOver Before 0 Before
  gathers_over Before i = ((λ now. inl now), (λ which. elim which [ inl now ↦ now | inr (place, below, found) ↦ absurd (omega (arith, below)) ]))

  pub gathers_over_more : (Before : I → Type 0) (count : ℕ) (item : A) (Now Later : I → Type 0) → count < length items → item ≡ get_or items count item
      → GathersOver Before count Now → ((i : I) → Later i ↔ (Now i ⊎ P i item)) → GathersOver Before (count + 1) Later
  gathers_over_more Before count item Now Later within is so_far step i =
      let more = some_step (λ _ it. P i it) items count item (item_at items count item within is) in (
        (λ later. elim ((step i).0 later) [
          | inl now ↦ elim ((so_far i).0 now) [ inl before ↦ inl before | inr below ↦ inr (more.1 (inl below)) ]
          | inr here ↦ inr (more.1 (inr here))
        ]),
        (λ which. (step i).1 (elim which [
          | inl before ↦ inl ((so_far i).1 (inl before))
          | inr below ↦ elim (more.0 below) [ inl earlier ↦ inl ((so_far i).1 (inr earlier)) | inr here ↦ inr here ]
        ])),
      )

  pub gathers_over_all : (Before : I → Type 0) (count : ℕ) (Now : I → Type 0) → length items ≤ count → GathersOver Before count Now
      → (i : I) → Now i ↔ (Before i ⊎ ((item : A) × Contains items item × P i item))
  gathers_over_all Before count Now past so_far i =
      let all = some_contained (P i) items count past in (
        (λ now. elim ((so_far i).0 now) [ inl before ↦ inl before | inr below ↦ inr (all.0 below) ]),
        (λ which. (so_far i).1 (elim which [ inl before ↦ inl before | inr some ↦ inr (all.1 some) ])),
      )

-- the same of two properties
pub gathers_both : {I A : Type 0} (P Q : I → A → Type 0) (items : List A) (count : ℕ) (Now : I → Type 0) → length items ≤ count
    → Gathers (λ i item. P i item × Q i item) items count Now → (i : I) → Now i ↔ ((item : A) × Contains items item × P i item × Q i item)
gathers_both P Q items count Now past so_far i =
    let all = gathers_all (λ i item. P i item × Q i item) items count Now past so_far i in (
      (λ now. let it = all.0 now in (it.0, it.1, it.2.0, it.2.1)),
      (λ (item, inside, one, other). all.1 (item, inside, (one, other))),
    )

-- what is added after a test
pub after_test : {Test Earlier This Later : Type 0} → Test → (Later ↔ (Earlier ⊎ This)) → Later ↔ (Earlier ⊎ (Test × This))
after_test test step = (
  (λ later. elim (step.0 later) [ inl earlier ↦ inl earlier | inr this ↦ inr (test, this) ]),
  (λ which. step.1 (elim which [ inl earlier ↦ inl earlier | inr both ↦ inr both.1 ])),
)
