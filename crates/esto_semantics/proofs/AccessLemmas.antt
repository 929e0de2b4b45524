-- What is accessible after earlier numbers, and orders that take one number more.
use Rattle.std.proofs.Common.{◌≡◌, ◌≢◌, ℕ, zero, suc, ◌<◌, ◌≤◌, Bool, true, false, List, [], ◌∷◌, ◌++◌, length, get_or, slice_set, replicate}
use Rattle.std.proofs.Common.{Some, slice_get, sym, ap, ◌∙◌, subst, arith, inl, inr}
use Rattle.std.specs.Prelude.{Contains}
use Rattle.std.proofs.lemmas.List.{length-set, length-replicate}
use Rattle.std.proofs.lemmas.List.Elements.{Contains-get_or, Contains-push_cases, Contains-append_left, Contains-push}
use Rattle.std.proofs.lemmas.List.Quantifiers.{all_pairs_push}
use Rattle.std.proofs.lemmas.Option.{none-some, slice_get_within}
use Rattle.esto_term.specs.declared.term.Term.{Term}
use Rattle.esto_semantics.specs.declared.fact.Fact.{Fact}
use Rattle.esto_term.specs.Sets.{Has, Within}
use Rattle.esto_semantics.specs.Access.{Patterns, IsAccessible, IsEarlier, IsOrder, IsExecutable}
use Rattle.esto_semantics.specs.AccessSteps.{IsReady, IsStuck}
use Rattle.esto_term.proofs.ListLemmas.{at_left, at_pushed, Contains-at, Contains-nil, place-from_Contains}
use Rattle.esto_term.proofs.SetLemmas.{has_set, none_has, Has-within}

-- ---- earlier numbers

pub earlier_contains : (order : List ℕ) (place number : ℕ) → IsEarlier order place number → Contains order number
earlier_contains order place number h = Contains-at order h.0 number h.2

pub contains_earlier : (order : List ℕ) (number : ℕ) → Contains order number → IsEarlier order (length order) number
contains_earlier order number h = let at = place-from_Contains order number h in (at.0, slice_get_within order at.0 number at.1, at.1)

pub earlier_push : (order : List ℕ) (x place number : ℕ) → IsEarlier order place number → IsEarlier (order ++ x ∷ []) place number
earlier_push order x place number h = (h.0, h.1, at_left order (x ∷ []) h.0 number h.2)

pub push_earlier : (order : List ℕ) (x place number : ℕ) → place ≤ length order → IsEarlier (order ++ x ∷ []) place number → IsEarlier order place number
push_earlier order x place number l h = elim (at_pushed order x h.0 number h.2) [
  | inl there ↦ (h.0, h.1, there)
  | inr last ↦ absurd (omega (arith, h.1, l, last.0))
]

-- ---- what is accessible

module _ (patterns : Patterns) (atoms : List (Fact Term)) where
  pub accessible_more : (P Q : ℕ → Type 0) → ((number : ℕ) → P number → Q number) → (atom : Fact Term) → IsAccessible patterns atoms P atom
      → IsAccessible patterns atoms Q atom
  accessible_more P Q step atom (pattern, has_pattern, meets) = (
    pattern,
    has_pattern,
    λ column term input at. elim (meets column term input at) [
      | inl constant ↦ inl constant
      | inr named ↦ inr (named.0, step named.0 named.1, named.2)
    ],
  )

  pub ready_more : (P Q : ℕ → Type 0) → ((number : ℕ) → P number → Q number) → (number : ℕ) → IsReady patterns atoms P number → IsReady patterns atoms Q number
  ready_more P Q step number ready atom e = accessible_more P Q step atom (ready atom e)

  -- an order of a part, and one more number
  pub order_grows : (part : List Bool) (order : List ℕ) (number : ℕ) → IsOrder patterns atoms part order → number < length atoms → (Has part number → ⊥)
      → IsReady patterns atoms (Has part) number
      → IsOrder patterns atoms (slice_set part number true) (order ++ number ∷ [])
  order_grows part order number is_order l absent ready = record {
    over = length-set part number true ∙ is_order.over;
    names = λ other. (
      λ h. (has_set part number inside other).1
          (elim (Contains-push_cases order number other h) [ inl there ↦ inr ((is_order.names other).0 there) | inr e ↦ inl e ]),
      λ h. elim ((has_set part number inside other).0 h) [
        | inl e ↦ subst (Contains (order ++ number ∷ [])) e (Contains-push order number)
        | inr there ↦ Contains-append_left order (number ∷ []) other ((is_order.names other).1 there)
      ],
    );
    once = all_pairs_push ◌≢◌ order number is_order.once
        (λ k d m e. absent (subst (Has part) e ((is_order.names (get_or order k d)).0 (Contains-get_or order k d m))));
    accessible = λ place at atom e d. elim (at_pushed order number place at e) [
      | inl there ↦ accessible_more _ _ (earlier_push order number place) atom (is_order.accessible place at atom there d)
      | inr last ↦ accessible_more (Has part) _ (λ other h. now place other last.0 h) atom (ready atom (ap (slice_get atoms) last.1 ∙ d))
    ];
  }
    where
      inside : number < length part
      inside = omega (arith, l, is_order.over)

      now : (place other : ℕ) → place ≡ length order → Has part other → IsEarlier (order ++ number ∷ []) place other
      now place other e h =
          earlier_push order number place other (subst (λ p. IsEarlier order p other) (sym e) (contains_earlier order other ((is_order.names other).1 h)))

  pub none_is_order : IsOrder patterns atoms (replicate (length atoms) false) []
  none_is_order = record {
    over = length-replicate (length atoms) false;
    names = λ number. (λ h. absurd (Contains-nil number h), λ h. absurd (none_has (length atoms) number h));
    once = λ i j d l m. absurd (omega (arith, m));
    accessible = λ place number atom e. absurd (none-some number e);
  }

  -- a part that is stuck has each executable subset of the set
  pub stuck_has : (set part other : List Bool) → IsStuck patterns atoms set part → IsExecutable patterns atoms other → Within other set → Within other part
  stuck_has set part other stuck executable within number h =
      let at = place-from_Contains order number ((is_order.names number).1 h) in each (suc at.0) at.0 (omega arith) number at.1
    where
      order : List ℕ
      order = executable.0

      is_order : IsOrder patterns atoms other executable.0
      is_order = executable.1

      each : (bound place : ℕ) → place < bound → (at : ℕ) → slice_get executable.0 place ≡ Some at → Has part at
      each zero place l at e = absurd (omega (arith, l))
      each (suc bound) place l at e =
          let there : Has other at = (is_order.names at).0 (Contains-at executable.0 place at e) in
          stuck at (subst (λ n. at < n) is_order.over (Has-within other at there)) (within at there)
          (λ atom d. accessible_more (IsEarlier executable.0 place) (Has part) (λ earlier h. each bound h.0 (omega (arith, h.1, l)) earlier h.2) atom
          (is_order.accessible place at atom e d))
