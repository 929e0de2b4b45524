-- The inner variables of a view, found one after the other.
use Rattle.std.proofs.Common.{◌↔◌, inl, inr, Bool, true, false, not, IsTrue, refl, ℕ, ◌<◌, ◌+◌, List, [], ◌∷◌, ◌++◌, Contains, sym, subst, arith}
use Rattle.std.specs.List.{AllPairs}
use Rattle.std.proofs.lemmas.Bool.{cases_order, false≢true}
use Rattle.std.proofs.lemmas.List.Elements.{Contains-append_left, Contains-push, Contains-push_cases, Contains-get_or}
use Rattle.std.proofs.lemmas.List.Quantifiers.{all_pairs_push}
use Rattle.esto_term.specs.declared.term.Term.TheVariants.{Plain}
use Rattle.esto_semantics.specs.Expansions.{IsInner}
use Rattle.esto_semantics.specs.Facts.{Mentions}
use Rattle.esto_semantics.specs.Queries.{ConjunctiveQuery}
use Rattle.esto_semantics.proofs.TermLemmas.{Const-apart-Plain}
use Rattle.esto_semantics.specs.Spreads.{AreInner}
use Rattle.esto_term.proofs.ListLemmas.{Contains-nil}

pub inner-from_parts : (view : ConjunctiveQuery) (number : ℕ) → Mentions view.body (Plain number) → (Contains view.head (Plain number) → ⊥)
    → IsInner view (Plain number)
inner-from_parts view number in_body not_in_head = record {
  in_body = in_body;
  no_constant = λ constant. Const-apart-Plain constant.0 number (sym constant.1);
  not_in_head = not_in_head;
}

pub inner_where : (view : ConjunctiveQuery) (number : ℕ) → Mentions view.body (Plain number) → (told : Bool)
    → IsTrue told ↔ Contains view.head (Plain number) → IsTrue (not told) ↔ IsInner view (Plain number)
inner_where view number in_body false told =
    (λ _. inner-from_parts view number in_body (λ inside. absurd (false≢true (told.1 inside))), λ _. refl)
inner_where view number in_body true told = (λ e. absurd (false≢true e), λ inner. absurd (inner.not_in_head (told.0 refl)))

-- the numbers of the inner variables below a bound, in rising order
pub record AreInnerBelow (view : ConjunctiveQuery) (bound : ℕ) (numbers : List ℕ) : Type 0 where
  pub exact : (number : ℕ) → Contains numbers number ↔ ((number < bound) × IsInner view (Plain number))
  pub rising : AllPairs ◌<◌ numbers

pub inner_none : (view : ConjunctiveQuery) → AreInnerBelow view 0 []
inner_none view = record {
  exact = λ number. ((λ inside. absurd (Contains-nil number inside)), (λ both. absurd (omega (arith, both.0))));
  rising = λ i j d less within. absurd (omega arith);
}

module _ (view : ConjunctiveQuery) (bound : ℕ) (numbers : List ℕ) (so_far : AreInnerBelow view bound numbers) where
  pub inner_takes : IsInner view (Plain bound) → AreInnerBelow view (bound + 1) (numbers ++ bound ∷ [])
  inner_takes inner = record {
    exact = λ number. (
      (λ inside. elim (Contains-push_cases numbers bound number inside) [
        | inl earlier ↦ let found = (so_far.exact number).0 earlier in (omega (arith, found.0), found.1)
        | inr same ↦ (omega arith, subst (λ it. IsInner view (Plain it)) same inner)
      ]),
      (λ both. elim (cases_order number bound) [
        | inl same ↦ subst (Contains (numbers ++ bound ∷ [])) (sym same) (Contains-push numbers bound)
        | inr apart ↦ elim apart [
          | inl below ↦ Contains-append_left numbers (bound ∷ []) number ((so_far.exact number).1 (below, both.1))
          | inr above ↦ absurd (omega (arith, both.0, above))
        ]
      ]),
    );
    rising = all_pairs_push ◌<◌ numbers bound so_far.rising (λ k d within. ((so_far.exact _).0 (Contains-get_or numbers k d within)).0);
  }

  pub inner_skips : (IsInner view (Plain bound) → ⊥) → AreInnerBelow view (bound + 1) numbers
  inner_skips outer = record {
    exact = λ number. (
      (λ inside. let found = (so_far.exact number).0 inside in (omega (arith, found.0), found.1)),
      (λ both. elim (cases_order number bound) [
        | inl same ↦ absurd (outer (subst (λ it. IsInner view (Plain it)) same both.1))
        | inr apart ↦ elim apart [
          | inl below ↦ (so_far.exact number).1 (below, both.1)
          | inr above ↦ absurd (omega (arith, both.0, above))
        ]
      ]),
    );
    rising = so_far.rising;
  }

  pub inner_all : ((number : ℕ) → Mentions view.body (Plain number) → number < bound) → AreInner view numbers
  inner_all below = record {
    exact = λ number. (
      (λ inside. ((so_far.exact number).0 inside).1),
      (λ inner. (so_far.exact number).1 (below number inner.in_body, inner)),
    );
    rising = so_far.rising;
  }
