-- What the terms of a view stand for in an atom over its fragment.
use Rattle.std.specs.Prelude.{◌≡◌, ◌↔◌, ℕ, ◌+◌, ◌<◌, cond, List, [], ◌∷◌, Some, length, map, slice_get, Contains, AllPairs}
use Rattle.std.specs.Ordering.{is_eq}
use Rattle.esto_term.specs.Order.{term_cmp}
use Rattle.esto_term.specs.declared.term.Term.{Term}
use Rattle.esto_term.specs.declared.term.Term.TheVariants.{Const, Plain}
use Rattle.esto_semantics.specs.Expansions.{IsInner}
use Rattle.esto_semantics.specs.Maps.{Keeps}
use Rattle.esto_semantics.specs.Queries.{ConjunctiveQuery}

-- These are the numbers of the view's inner variables, in rising order.
pub record AreInner (view : ConjunctiveQuery) (numbers : List ℕ) : Type 0 where
  pub exact : (number : ℕ) → Contains numbers number ↔ IsInner view (Plain number)
  pub rising : AllPairs ◌<◌ numbers

-- The map says what the terms of a view stand for in an atom: it keeps constants, sends the view's head to the atom's terms, and sends the inner variables,
-- by rising number, to the variables with the numbers from `first` on; the number after them is `next`.
pub record IsSpread (view : ConjunctiveQuery) (terms : List Term) (first next : ℕ) (m : Term → Term) : Type 0 where
  pub inner : List ℕ
  pub are_inner : AreInner view inner
  pub keeps : Keeps Const m
  pub head : map m view.head ≡ terms
  pub new : (place number : ℕ) → slice_get inner place ≡ Some number → m (Plain number) ≡ Plain (first + place)
  pub after : next ≡ first + length inner

-- The term that stands for a term: the one in `to` at the place at which the term stands in `from`, or the term itself where it stands at none.
abbrev pub substituted : List Term → List Term → Term → Term
substituted [] to term = term
substituted (first ∷ from) [] term = term
substituted (first ∷ from) (target ∷ to) term = cond (is_eq (term_cmp term first)) target (substituted from to term)
