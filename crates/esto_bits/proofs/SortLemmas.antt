-- A sorted antichain is in the order of the list.
use Rattle.std.proofs.Common.{◌≡◌, ◌↔◌, ℕ, ◌<◌, Bool, false, List, length, get_or, Contains, Bor, refl, sym, ap, ◌∙◌, subst, arith}
use Rattle.std.specs.Cmp.{IsStrictWeakOrder}
use Rattle.std.specs.Fn.{Mut, Called, ComparesAs}
use Rattle.std.specs.List.Sorted.{IsPermutation, IsSortedBy}
use Rattle.std.specs.Ordering.{is_lt, ordering_reverse}
use Rattle.std.specs.declared.cmp.Ordering.{Ordering}
use Rattle.std.specs.declared.cmp.Ordering.TheVariants.{Less, Equal, Greater}
use Rattle.std.proofs.lemmas.Bool.{false≢true}
use Rattle.std.proofs.lemmas.Fn.{always_returns_same}
use Rattle.std.proofs.lemmas.List.{get_or_default}
use Rattle.std.proofs.lemmas.List.Elements.{All-contains}
use Rattle.std.proofs.lemmas.List.Sorted.{Contains-permutation, IsPermutation-sym, ranks_by, sorted_far}
use Rattle.esto_term.proofs.ListLemmas.{pairs_permuted}
use Rattle.esto_term.specs.Sets.{AreInOrder, Within, set_cmp}
use Rattle.esto_term.proofs.SetLemmas.{set_cmp_total, equal_sets, within_refl}
use Rattle.esto_bits.specs.Kept.{AreOver, IsAntichain}

-- the test by which the code sorts is an order
sets_weak : IsStrictWeakOrder (λ set other. is_lt (set_cmp set other))
sets_weak = ranks_by set_cmp_total (λ (set : List Bool). set)

-- neither of two sets is a subset of the other
abbrev Apart : List Bool → List Bool → Type 0
Apart set other = (¬ (Within set other)) × (¬ (Within other set))

module _ (count : ℕ) (sets sorted : List (List Bool)) (over : AreOver count sets) (antichain : IsAntichain sets) (moved : IsPermutation sets sorted) where
  -- both lists have the same sets
  pub sorted_members : (set : List Bool) → Contains sorted set ↔ Contains sets set
  sorted_members set = (Contains-permutation sorted sets set (IsPermutation-sym sets sorted moved), Contains-permutation sets sorted set moved)

  count_at : (place : ℕ) (d : List Bool) → place < length sorted → length (get_or sorted place d) ≡ count
  count_at place d within =
      All-contains (λ set. length set ≡ count) sets (get_or sorted place d) over
      ((sorted_members (get_or sorted place d)).0 (place, within, get_or_default sorted place (get_or sorted place d) d within))

  -- of two sets the later one is not less, so the earlier one is less: the antichain has no set twice
  sorted_in_order : IsSortedBy (λ set other. is_lt (set_cmp set other)) sorted → AreInOrder sorted
  sorted_in_order up i j d less within = go (set_cmp one other) refl
    where
      one : List Bool
      one = get_or sorted i d

      other : List Bool
      other = get_or sorted j d

      later : is_lt (set_cmp other one) ≡ false
      later = sorted_far (λ set there. is_lt (set_cmp set there)) sets_weak sorted up i j d (omega (arith, less)) within

      apart : Apart one other
      apart = pairs_permuted Apart (λ x y both. (both.1, both.0)) sets sorted antichain moved i j d less within

      go : (order : Ordering) → set_cmp one other ≡ order → set_cmp one other ≡ Less
      go Less is = is
      go Equal is =
          let same : one ≡ other = equal_sets one other (count_at i d (omega (arith, less, within)) ∙ sym (count_at j d within)) is in
          absurd (apart.0 (subst (Within one) same (within_refl one)))
      go Greater is =
          let back : set_cmp other one ≡ Less = set_cmp_total.antisymm other one ∙ ap ordering_reverse is in absurd (false≢true (sym later ∙ ap is_lt back))

  -- what the sort ensures of a comparison that answers by the order of sets
  pub in_order_from_sort_by : {F : Type 0} {g : Mut F (Bor (List Bool) × (Bor (List Bool) × Unit {0})) Ordering} {f : F}
      → ((lt : List Bool → List Bool → Bool) → IsStrictWeakOrder lt → ComparesAs g lt f → IsSortedBy lt sorted)
      → ((a : Bor (List Bool) × (Bor (List Bool) × Unit {0})) (r : Ordering) (f' : F) → Called g f a r f' → (r ≡ set_cmp a.0.now a.1.0.now) × (f' ≡ f))
      → AreInOrder sorted
  in_order_from_sort_by {g = g} {f = f} up answers =
      sorted_in_order
      (up (λ set other. is_lt (set_cmp set other)) sets_weak
      (always_returns_same g (λ a r. is_lt r ≡ is_lt (set_cmp a.0.now a.1.0.now)) f (λ a r f' k. (ap is_lt (answers a r f' k).0, (answers a r f' k).1))))
