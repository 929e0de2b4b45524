-- Lists that rise are one where they have the same items.
use Rattle.std.proofs.Common.{◌≡◌, ◌↔◌, inl, inr, List, [], ◌∷◌, Contains, refl, sym, ap, ◌∙◌, subst}
use Rattle.std.specs.Prelude.{AllPairs}
use Rattle.std.specs.Cmp.{IsTotalOrder}
use Rattle.std.specs.Cmp.Lexicographic.{slice_cmp}
use Rattle.std.specs.Ordering.{nat_cmp}
use Rattle.std.proofs.lemmas.Cmp.{lists_total, nat_cmp_total}
use Rattle.esto_term.proofs.ChoiceLemmas.{one_list, pairs_head, pairs_tail}
use Rattle.esto_term.proofs.ListLemmas.{Contains-nil, Contains-head, Contains-rest, Contains-cases}
use Rattle.esto_rows.specs.Lent.{RisingRowsAreOne}

-- lists with the same items, each before later ones by a relation that holds one way alone, are one
module _ {A : Type 0} (Before : A → A → Type 0) where
  pub one_by_before : (xs ys : List A) → ((x : A) → Contains xs x → Before x x → ⊥) → ((x y : A) → Contains xs x → Contains xs y → Before x y → Before y x → ⊥)
      → AllPairs Before xs → AllPairs Before ys → ((z : A) → Contains xs z ↔ Contains ys z) → xs ≡ ys
  one_by_before [] [] itself both rises others same = refl
  one_by_before [] (y ∷ ys) itself both rises others same = absurd (Contains-nil y ((same y).1 (Contains-head y ys)))
  one_by_before (x ∷ xs) [] itself both rises others same = absurd (Contains-nil x ((same x).0 (Contains-head x xs)))
  one_by_before (x ∷ xs) (y ∷ ys) itself both rises others same =
      ap (λ z. z ∷ xs) heads ∙ ap (λ zs. y ∷ zs)
      (one_by_before xs ys (λ z inside. itself z (Contains-rest x xs z inside))
      (λ z w inside there. both z w (Contains-rest x xs z inside) (Contains-rest x xs w there))
      (pairs_tail Before x xs rises) (pairs_tail Before y ys others) tails)
    where
      in_first : (z : A) → Contains ys z → Contains (x ∷ xs) z
      in_first z inside = (same z).1 (Contains-rest y ys z inside)

      heads : x ≡ y
      heads = elim (Contains-cases y ys x ((same x).0 (Contains-head x xs))) [
        | inl e ↦ sym e
        | inr later ↦ elim (Contains-cases x xs y ((same y).1 (Contains-head y ys))) [
          | inl e ↦ e
          | inr other ↦ absurd (both x y (Contains-head x xs) (Contains-rest x xs y other)
              (pairs_head Before x xs rises y other) (pairs_head Before y ys others x later))
        ]
      ]

      tails : (z : A) → Contains xs z ↔ Contains ys z
      tails z = (
        (λ inside. elim (Contains-cases y ys z ((same z).0 (Contains-rest x xs z inside))) [
          | inl e ↦ absurd (itself x (Contains-head x xs) (subst (Before x) (sym (heads ∙ e)) (pairs_head Before x xs rises z inside)))
          | inr there ↦ there
        ]),
        (λ inside. elim (Contains-cases x xs z (in_first z inside)) [
          | inl e ↦ absurd (itself x (Contains-head x xs)
              (subst (λ it. Before it x) (sym heads) (subst (Before y) (sym e) (pairs_head Before y ys others z inside))))
          | inr there ↦ there
        ]),
      )

rows_total : IsTotalOrder (slice_cmp (slice_cmp nat_cmp))
rows_total = lists_total (lists_total nat_cmp_total)

pub rising_once : RisingRowsAreOne
rising_once rows others rises too same = one_list (slice_cmp (slice_cmp nat_cmp)) rows_total rows others rises too same
