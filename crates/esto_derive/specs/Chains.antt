-- What is reached from a term over the equalities of a world, one step after another.
use Rattle.std.specs.Prelude.{◌≡◌, ◌≢◌, ℕ, ◌<◌, Bool, List, map, Option, Some, None, slice_get, Contains, AllPairs}
use Rattle.esto_term.specs.declared.term.Term.{Term}
use Rattle.esto_chase_laws.specs.Worlds.{SaysOne}
use Rattle.esto_chase_laws.specs.declared.entry.Claim.{Claim}
use Rattle.esto_chase_laws.specs.declared.entry.Entry.{Entry}
use Rattle.esto_derive.specs.Searching.{IsChainIn, SaysOneIn}
use Rattle.esto_derive.specs.declared.chains.Reached.{Reached}

-- The claim says that the term is one with the other one, and with that alone.
abbrev pub IsOther : Claim → Term → Term → Type 0
IsOther claim term other = SaysOne claim term other × ((next : Term) → SaysOne claim term next → next ≡ other)

-- The terms that are reached, in order.
abbrev pub reached_terms : List Reached → List Term
reached_terms reached = map (λ (it : Reached). it.term.now) reached

-- The term is reached at the place.
abbrev pub IsAt : List Reached → Term → ℕ → Type 0
IsAt reached term place = (it : Reached) × (slice_get reached place ≡ Some it) × (it.term.now ≡ term)

-- The term at the place is the first one; or it is reached from the term at an earlier place, over an equality of the
-- world.
abbrev pub IsReached : List Entry → List Bool → Term → List Reached → ℕ → Term → Option (ℕ × ℕ) → Type 0
IsReached entries set first reached place term None = first ≡ term
IsReached entries set first reached place term (Some by) =
    (by.0 < place) × (from : Reached) × (slice_get reached by.0 ≡ Some from) × SaysOneIn entries set by.1 from.term.now term

-- The first term is reached, and each other one over an equality of the world from a term that is reached at an earlier
-- place; no term is reached twice.
pub record AreReached (entries : List Entry) (set : List Bool) (first : Term) (reached : List Reached) : Type 0 where
  pub has_first : Contains (reached_terms reached) first
  pub each : (place : ℕ) (it : Reached) → slice_get reached place ≡ Some it → IsReached entries set first reached place it.term.now it.by
  pub distinct : AllPairs ◌≢◌ (reached_terms reached)

-- What was reached still is, each at its place, and what else is reached is so over equalities of the world.
pub record Grows (entries : List Entry) (set : List Bool) (old new : List Reached) : Type 0 where
  pub keeps : (place : ℕ) (it : Reached) → slice_get old place ≡ Some it → slice_get new place ≡ Some it
  pub are : (first : Term) → AreReached entries set first old → AreReached entries set first new

-- What the equality says is one with the term at the place is reached.
abbrev pub IsPassed : List Entry → List Bool → List Reached → ℕ → ℕ → Type 0
IsPassed entries set reached place link =
    (it : Reached) (next : Term) → slice_get reached place ≡ Some it → SaysOneIn entries set link it.term.now next → Contains (reached_terms reached) next

-- The places are those of a chain of equalities from the first term to the one at the place, in each world in which the
-- terms are so reached.
abbrev pub LeadsTo : List Reached → ℕ → List ℕ → Type 0
LeadsTo reached place chain =
    (entries : List Entry) (set : List Bool) (first : Term) (it : Reached) → AreReached entries set first reached → slice_get reached place ≡ Some it
    → IsChainIn entries set first it.term.now (Some chain)
