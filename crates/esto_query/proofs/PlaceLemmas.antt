-- The order on lists of places.
use Rattle.std.proofs.Common.{◌≡◌, ◌≢◌, ℕ, suc, zero, ◌+◌, ◌-◌, ◌^◌, min, ◌<◌, ◌≤◌, All, take, get_or, ◌⊎◌, ◌↔◌, Bool, true, false, cond, eqb, List, [], ◌∷◌}
use Rattle.std.proofs.Common.{length, Some, refl, sym, ap, subst, ◌∙◌, inl, inr, arith}
use Rattle.std.specs.List.{slice_get, slice_set}
use Rattle.std.specs.declared.cmp.Ordering.{Ordering}
use Rattle.std.specs.declared.cmp.Ordering.TheVariants.{Less, Equal, Greater}
use Rattle.std.specs.Ordering.{nat_cmp, ordering_then}
use Rattle.std.specs.Cmp.Lexicographic.{slice_cmp}
use Rattle.std.proofs.lemmas.Cmp.{ranked, by_ranked}
use Rattle.std.proofs.lemmas.Bool.Decides.{nat_tests}
use Rattle.std.proofs.lemmas.Option.{same_Some, slice_get_read}
use Rattle.std.proofs.lemmas.List.Elements.{All-head, All-tail}
use Rattle.std.proofs.lemmas.List.{get_or_default, length-take-le, get_or-take}
use Rattle.esto_semantics.specs.Matches.{IsBefore, IsAtMost}
use Rattle.esto_query.specs.Searches.{first_from, rest_from, Follows}

-- ---- one place and the rest

at_most : (p q : ℕ) (o : Ordering) → nat_cmp p q ≡ Less → ordering_then (nat_cmp p q) o ≢ Greater
at_most p q o e greater = let less : ordering_then (nat_cmp p q) o ≡ Less = ap (λ r. ordering_then r o) e in cc

less_cmp : (p q : ℕ) → p < q → nat_cmp p q ≡ Less
less_cmp p q l = grind (arith, nat_tests)

equal_cmp : (p q : ℕ) → p ≡ q → nat_cmp p q ≡ Equal
equal_cmp p q e = grind (arith, nat_tests)

-- the first places decide, or they are the same and the rest does
pub IsAtMost-cons : (p q : ℕ) (ps qs : List ℕ) → IsAtMost (p ∷ ps) (q ∷ qs) ↔ ((p < q) ⊎ ((p ≡ q) × IsAtMost ps qs))
IsAtMost-cons p q ps qs = (
  λ h. by_ranked (p < q) (p ≡ q) (q < p) (nat_cmp p q) (ranked p q (nat_cmp p q) refl)
      (λ e less. inl less)
      (λ e same. inr (same, λ greater. h (ap (λ r. ordering_then r (slice_cmp nat_cmp ps qs)) e ∙ greater)))
      (λ e more. absurd (h (ap (λ r. ordering_then r (slice_cmp nat_cmp ps qs)) e))),
  λ either. elim either [
    | inl less ↦ at_most p q (slice_cmp nat_cmp ps qs) (less_cmp p q less)
    | inr both ↦ λ greater. both.1 (sym (ap (λ r. ordering_then r (slice_cmp nat_cmp ps qs)) (equal_cmp p q both.0)) ∙ greater)
  ],
)

pub IsBefore-cons : (p q : ℕ) (ps qs : List ℕ) → IsBefore (p ∷ ps) (q ∷ qs) ↔ ((p < q) ⊎ ((p ≡ q) × IsBefore ps qs))
IsBefore-cons p q ps qs = (
  λ h. by_ranked (p < q) (p ≡ q) (q < p) (nat_cmp p q) (ranked p q (nat_cmp p q) refl)
      (λ e less. inl less)
      (λ e same. inr (same, sym (ap (λ r. ordering_then r (slice_cmp nat_cmp ps qs)) e) ∙ h))
      (λ e more. let greater : Greater ≡ Less = sym (ap (λ r. ordering_then r (slice_cmp nat_cmp ps qs)) e) ∙ h in absurd (cc)),
  λ either. elim either [
    | inl less ↦ ap (λ r. ordering_then r (slice_cmp nat_cmp ps qs)) (less_cmp p q less)
    | inr both ↦ ap (λ r. ordering_then r (slice_cmp nat_cmp ps qs)) (equal_cmp p q both.0) ∙ both.1
  ],
)

pub IsAtMost-nil : (others : List ℕ) → IsAtMost [] others
IsAtMost-nil [] greater = let e : Equal ≡ Greater = greater in cc
IsAtMost-nil (q ∷ qs) greater = let e : Less ≡ Greater = greater in cc

-- ---- from a list of places on

cases_le : (a b : ℕ) → a ≤ b → (a < b) ⊎ (a ≡ b)
cases_le a b m = grind arith

pub first_is_least : (from : List ℕ) (p : ℕ) (ps : List ℕ) → IsAtMost from (p ∷ ps) → first_from from ≤ p
first_is_least [] p ps h = omega arith
first_is_least (x ∷ xs) p ps h = elim ((IsAtMost-cons x p xs ps).0 h) [ inl less ↦ omega arith | inr both ↦ omega (arith, both.0) ]

rest_case : (x p : ℕ) (xs ps : List ℕ) (b : Bool) → eqb x p ≡ b → (x < p) ⊎ ((x ≡ p) × IsAtMost xs ps) → IsAtMost (cond b xs []) ps
rest_case x p xs ps true e (inl less) = absurd (grind (arith, nat_tests))
rest_case x p xs ps true e (inr both) = both.1
rest_case x p xs ps false e h = IsAtMost-nil ps

pub rest_is_at_most : (from : List ℕ) (p : ℕ) (ps : List ℕ) → IsAtMost from (p ∷ ps) → IsAtMost (rest_from from p) ps
rest_is_at_most [] p ps h = IsAtMost-nil ps
rest_is_at_most (x ∷ xs) p ps h = rest_case x p xs ps (eqb x p) refl ((IsAtMost-cons x p xs ps).0 h)

onto_case : (x p : ℕ) (xs ps : List ℕ) (b : Bool) → eqb x p ≡ b → x ≤ p → IsAtMost (cond b xs []) ps → (x < p) ⊎ ((x ≡ p) × IsAtMost xs ps)
onto_case x p xs ps true e l h = inr ((grind (arith, nat_tests)), h)
onto_case x p xs ps false e l h = inl (grind (arith, nat_tests))

pub IsAtMost-onto : (from : List ℕ) (p : ℕ) (ps : List ℕ) → first_from from ≤ p → IsAtMost (rest_from from p) ps → IsAtMost from (p ∷ ps)
IsAtMost-onto [] p ps l h = IsAtMost-nil (p ∷ ps)
IsAtMost-onto (x ∷ xs) p ps l h = (IsAtMost-cons x p xs ps).1 (onto_case x p xs ps (eqb x p) refl l h)

pub IsAtMost-least : (p q : ℕ) (ps qs : List ℕ) → p ≤ q → (q ≡ p → IsAtMost ps qs) → IsAtMost (p ∷ ps) (q ∷ qs)
IsAtMost-least p q ps qs l h =
    (IsAtMost-cons p q ps qs).1 (elim (cases_le p q l) [ inl less ↦ inl less | inr same ↦ inr (same, h (sym same)) ])

-- ---- after a list of places: what is after it is from another list on

same_first : {A E P Q : Type 0} → P ↔ Q → (A ⊎ (E × P)) ↔ (A ⊎ (E × Q))
same_first same = (
  λ either. elim either [ inl a ↦ inl a | inr both ↦ inr (both.0, same.0 both.1) ],
  λ either. elim either [ inl a ↦ inl a | inr both ↦ inr (both.0, same.1 both.1) ],
)

both_ways : {A B C : Type 0} → A ↔ B → B ↔ C → A ↔ C
both_ways f g = (λ a. g.0 (f.0 a), λ c. f.1 (g.1 c))

other_way : {A B : Type 0} → A ↔ B → B ↔ A
other_way f = (f.1, f.0)

-- where the first places are the same, the rest decides in both orders
cons_ways : (p q : ℕ) (ps from qs : List ℕ) → IsAtMost from qs ↔ IsBefore ps qs → IsAtMost (p ∷ from) (q ∷ qs) ↔ IsBefore (p ∷ ps) (q ∷ qs)
cons_ways p q ps from qs same = both_ways (IsAtMost-cons p q from qs) (both_ways (same_first same) (other_way (IsBefore-cons p q ps qs)))

-- a list with fewer places: nothing with more places is the same
shorter_is_from : (after others : List ℕ) → length after < length others → IsAtMost after others ↔ IsBefore after others
shorter_is_from [] [] l = absurd (omega arith)
shorter_is_from [] (q ∷ qs) l = (λ h. refl, λ h. IsAtMost-nil (q ∷ qs))
shorter_is_from (p ∷ ps) [] l = absurd (omega arith)
shorter_is_from (p ∷ ps) (q ∷ qs) l = cons_ways p q ps ps qs (shorter_is_from ps qs (omega arith))

-- a list with more places: those beyond count for nothing
cut_is_before : (after others : List ℕ) → length others ≤ length after → IsBefore (take (length others) after) others ↔ IsBefore after others
cut_is_before [] [] l = (λ h. h, λ h. h)
cut_is_before (p ∷ ps) [] l = (λ h. let never : Equal ≡ Less = h in absurd (cc), λ h. let never : Greater ≡ Less = h in absurd (cc))
cut_is_before [] (q ∷ qs) l = absurd (omega arith)
cut_is_before (p ∷ ps) (q ∷ qs) l =
    both_ways (IsBefore-cons p q (take (length qs) ps) qs) (both_ways (same_first (cut_is_before ps qs (omega arith))) (other_way (IsBefore-cons p q ps qs)))

module _ (last next bound : ℕ) (raised : (place : ℕ) → place < bound → (next ≤ place) ↔ (last < place)) where
  last_case : (q : ℕ) → q < bound → ((next < q) ⊎ ((next ≡ q) × IsAtMost [] [])) ↔ ((last < q) ⊎ ((last ≡ q) × IsBefore [] []))
  last_case q l = (
    λ either. elim either [ inl less ↦ inl ((raised q l).0 (omega arith)) | inr both ↦ inl ((raised q l).0 (omega (arith, both.0))) ],
    λ either. elim either [
      | inl less ↦ elim (cases_le next q ((raised q l).1 less)) [ inl more ↦ inl more | inr same ↦ inr (same, IsAtMost-nil []) ]
      | inr both ↦ let never : Equal ≡ Less = both.1 in absurd (cc)
    ],
  )

  -- a list of as many places, with another last place
  raised_is_from : (after others : List ℕ) (i : ℕ) → length after ≡ suc i → length others ≡ suc i → slice_get after i ≡ Some last
      → All (λ place. place < bound) others → IsAtMost (slice_set after i next) others ↔ IsBefore after others
  raised_is_from [] others i l k at all = absurd (omega arith)
  raised_is_from (p ∷ ps) [] i l k at all = absurd (omega arith)
  raised_is_from (p ∷ []) (q ∷ []) zero l k at all =
      let same : p ≡ last = same_Some p last at in
      let within : q < bound = All-head (λ place. place < bound) q [] all in
      rw same (both_ways (IsAtMost-cons next q [] []) (both_ways (last_case q within) (other_way (IsBefore-cons last q [] []))))
  raised_is_from (p ∷ []) (q ∷ r ∷ rs) zero l k at all = absurd (omega arith)
  raised_is_from (p ∷ r ∷ rs) (q ∷ qs) zero l k at all = absurd (omega arith)
  raised_is_from (p ∷ ps) (q ∷ qs) (suc i) l k at all =
      cons_ways p q ps (slice_set ps i next) qs (raised_is_from ps qs i (omega arith) (omega arith) at (All-tail (λ place. place < bound) q qs all))

pub Follows-shorter : (after : List ℕ) (count bound : ℕ) → length after < count → Follows after count bound after
Follows-shorter after count bound l places k all = shorter_is_from after places (omega (arith, k))

-- one more, or the greatest number of a machine
one_more : (last bound : ℕ) → bound < 2 ^ 64 → (place : ℕ) → place < bound → (min (last + 1) (2 ^ 64 - 1) ≤ place) ↔ (last < place)
one_more last bound fits place l = (λ h. grind arith, λ h. grind arith)

pub Follows-raised : (after from : List ℕ) (count bound : ℕ) → 0 < count → count ≤ length after → bound < 2 ^ 64
    → from ≡ slice_set (take count after) (count - 1) (min (get_or after (count - 1) 0 + 1) (2 ^ 64 - 1)) → Follows after count bound from
Follows-raised after from count bound some l fits is_from places k all =
    let last = get_or after (count - 1) 0 in
    let long : length (take count after) ≡ count = length-take-le count after l in
    let read : last ≡ get_or (take count after) (count - 1) last =
    get_or_default after (count - 1) 0 last (omega arith) ∙ sym (get_or-take count after (count - 1) last (omega arith)) in
    let last_at : slice_get (take count after) (count - 1) ≡ Some last = slice_get_read (take count after) _ (count - 1) last refl (omega (arith, long)) read in
    let cut : IsBefore (take count after) places ↔ IsBefore after places =
    subst (λ n. IsBefore (take n after) places ↔ IsBefore after places) k (cut_is_before after places (omega (arith, k, l))) in
    let raised = raised_is_from last (min (last + 1) (2 ^ 64 - 1)) bound (one_more last bound fits) (take count after) places (count - 1) (omega (arith, long))
    (omega (arith, k)) last_at all in
    both_ways (subst (λ f. IsAtMost f places ↔ IsBefore (take count after) places) (sym is_from) raised) cut
