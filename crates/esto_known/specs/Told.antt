-- Terms, and places of terms, that tell what others meet.
use Rattle.std.specs.Prelude.{◌≡◌, ◌⊎◌, ℕ, List, [], ◌∷◌, length, Contains, Some, slice_get}
use Rattle.esto_term.specs.declared.term.Term.{Term}
use Rattle.esto_semantics.specs.Spreads.{substituted}
use Rattle.esto_chase_laws.specs.WorldMatches.{taken}

-- These terms, all of which are of `from`, tell as much as all of the terms do: each of those is one of them, or none of `from`, so that it meets itself.
pub record Tell (from terms these : List Term) : Type 0 where
  pub told : (term : Term) → Contains terms term → Contains these term ⊎ ¬ (Contains from term)
  pub among : (term : Term) → Contains these term → Contains from term

-- Terms stay, and the term is among them, if it is one of `from`.
pub record IsPut (from : List Term) (term : Term) (these later : List Term) : Type 0 where
  pub kept : (own : Term) → Contains these own → Contains later own
  pub told : Contains later term ⊎ ¬ (Contains from term)
  pub among : (own : Term) → Contains later own → Contains these own ⊎ Contains from own

-- The place is the first one of the term.
abbrev pub IsFirstAt : List Term → Term → ℕ → Type 0
IsFirstAt from term place = (slice_get from place ≡ Some term)
    × ((to : List Term) (it : Term) → length from ≡ length to → slice_get to place ≡ Some it → it ≡ substituted from to term)

-- The lists have the same at the places.
abbrev pub AgreeAt : List ℕ → List Term → List Term → Type 0
AgreeAt places to others = (place : ℕ) → Contains places place → slice_get to place ≡ slice_get others place

-- What stands at the places tells what the term meets first.
abbrev pub TellsOne : List Term → List ℕ → Term → Type 0
TellsOne from places term = (to others : List Term) → length from ≡ length to → length from ≡ length others → AgreeAt places to others
    → taken from to term ≡ taken from others term

-- What the term meets first, which is one of `from`, stands at the place.
abbrev pub IsMetAt : List Term → Term → ℕ → Type 0
IsMetAt from term place = Contains from term
    × ((to : List Term) (it : Term) → length from ≡ length to → slice_get to place ≡ Some it → it ≡ taken from to term)

-- What the two sides meet first stands at the places.
abbrev pub AreMetAt : List Term → List Term → ℕ × ℕ → Type 0
AreMetAt from sides places =
    (left : Term) × (right : Term) × (sides ≡ left ∷ right ∷ []) × IsMetAt from left places.0 × IsMetAt from right places.1
