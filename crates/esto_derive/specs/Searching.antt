-- Matches of a body in the world of a set, found atom by atom, and the equalities that they use.
use Rattle.std.specs.Prelude.{◌≡◌, ◌⊎◌, ◌↔◌, ℕ, Bool, List, ◌∷◌, ◌++◌, map, Option, Some, None, slice_get, Contains}
use Rattle.std.specs.List.{AllZip}
use Rattle.esto_term.specs.declared.term.Term.{Term}
use Rattle.esto_semantics.specs.Facts.{terms_of}
use Rattle.esto_term.specs.Sets.{Within}
use Rattle.esto_semantics.specs.declared.fact.Fact.{Fact}
use Rattle.esto_chase_laws.specs.Derived.{IsChain, IsNamed}
use Rattle.esto_chase_laws.specs.WorldMatches.{AreChosen, Fits, taken}
use Rattle.esto_chase_laws.specs.Worlds.{InWorld, Linked}
use Rattle.esto_chase_laws.specs.declared.entry.Claim.{Claim}
use Rattle.esto_chase_laws.specs.declared.entry.Claim.TheVariants.{Fact as Stated, Same}
use Rattle.esto_chase_laws.specs.declared.entry.Entry.{Entry}

-- The entry at the place makes the claim in the world of the set.
abbrev pub ClaimsIn : List Entry → List Bool → ℕ → Claim → Type 0
ClaimsIn entries set place claim = (entry : Entry) × (slice_get entries place ≡ Some entry) × Within entry.product set × (entry.claim ≡ claim)

-- The entry at the place says in the world of the set that the two terms are one, in either order.
abbrev pub SaysOneIn : List Entry → List Bool → ℕ → Term → Term → Type 0
SaysOneIn entries set place term other = ClaimsIn entries set place (Same term other) ⊎ ClaimsIn entries set place (Same other term)

-- The entry is in the world of the set, and says that two terms are one.
abbrev pub IsEqualityIn : List Bool → Entry → Type 0
IsEqualityIn set entry = (left : Term) × (right : Term) × Within entry.product set × (entry.claim ≡ Same left right)

-- The entry at the place says in the world of the set that two terms are one.
abbrev pub IsLink : List Entry → List Bool → ℕ → Type 0
IsLink entries set place = (entry : Entry) × (slice_get entries place ≡ Some entry) × IsEqualityIn set entry

-- The entries at the places say in the world of the set that two terms are one.
abbrev pub AreLinks : List Entry → List Bool → List ℕ → Type 0
AreLinks entries set places = (place : ℕ) → Contains places place → IsLink entries set place

-- The places are those of all equalities in the world of the set.
abbrev pub AreAllLinks : List Entry → List Bool → List ℕ → Type 0
AreAllLinks entries set places = (place : ℕ) → Contains places place ↔ IsLink entries set place

-- The entries at the places are a chain of equalities of the world of the set from the one term to the other; where
-- there are no places, the terms are not one in the world.
abbrev pub IsChainIn : List Entry → List Bool → Term → Term → Option (List ℕ) → Type 0
IsChainIn entries set term other None = ¬ (Linked (InWorld entries set) term other)
IsChainIn entries set term other (Some places) = AreLinks entries set places × IsChain entries places term other

-- The terms `from` have met the terms `to`. The chosen facts hold and go on with the body: each of their terms is one
-- with what the body's term at its place meets first.
abbrev pub GoesOn : (Claim → Type 0) → List Term → List Term → List (Fact Term) → List (Fact Term) → Type 0
GoesOn Holds from to body chosen = AreChosen Holds body chosen × Fits (Linked Holds) (from ++ terms_of body) (to ++ terms_of chosen)

-- The entries at the places state facts that go on with the body in the world of the set; where there are no places, no
-- facts do.
abbrev pub IsFound : List Entry → List Bool → List Term → List Term → List (Fact Term) → Option (List ℕ) → Type 0
IsFound entries set from to body None = (chosen : List (Fact Term)) → ¬ (GoesOn (InWorld entries set) from to body chosen)
IsFound entries set from to body (Some places) =
    (chosen : List (Fact Term)) × AllZip (λ (place : ℕ) (fact : Fact Term). ClaimsIn entries set place (Stated fact)) places chosen
    × GoesOn (InWorld entries set) from to body chosen

-- The entries at the places state facts that go on with the rest of the body behind this fact, if it is in the world of
-- the set; where there are no places, no facts do.
abbrev pub IsFoundAfter : List Entry → List Bool → List Term → List Term → Fact Term → List (Fact Term) → Fact Term → Option (List ℕ) → Type 0
IsFoundAfter entries set from to atom rest fact None =
    (chosen : List (Fact Term)) → ¬ (GoesOn (InWorld entries set) from to (atom ∷ rest) (fact ∷ chosen))
IsFoundAfter entries set from to atom rest fact (Some places) =
    (chosen : List (Fact Term)) × AllZip (λ (place : ℕ) (other : Fact Term). ClaimsIn entries set place (Stated other)) places chosen
    × (InWorld entries set (Stated fact) → GoesOn (InWorld entries set) from to (atom ∷ rest) (fact ∷ chosen))

-- The entries at the places state facts that go on with the body in the world of the set; where there are no places,
-- none do of which the first is this entry's.
abbrev pub IsFoundBy : List Entry → List Bool → List Term → List Term → Fact Term → List (Fact Term) → Entry → Option (List ℕ) → Type 0
IsFoundBy entries set from to atom rest entry None =
    (fact : Fact Term) (chosen : List (Fact Term)) → Within entry.product set → entry.claim ≡ Stated fact
    → ¬ (GoesOn (InWorld entries set) from to (atom ∷ rest) (fact ∷ chosen))
IsFoundBy entries set from to atom rest entry (Some places) = IsFound entries set from to (atom ∷ rest) (Some places)

-- What the terms meet first is one with the others, place by place, and the entries at the places state facts that go
-- on with the body in the world of the set; where there are no places, it is not, or no facts do.
abbrev pub IsFoundIfOne : List Entry → List Bool → List Term → List Term → List Term → List Term → List (Fact Term) → Option (List ℕ) → Type 0
IsFoundIfOne entries set from to terms others body places =
    (AllZip (Linked (InWorld entries set)) others (map (taken from to) terms) × IsFound entries set from to body places)
    ⊎ (¬ (AllZip (Linked (InWorld entries set)) others (map (taken from to) terms)) × (places ≡ None))

-- The old places are among the new ones, which name equalities of the world where these do, and the two terms are one
-- by what they name.
pub record AddsChain (entries : List Entry) (set : List Bool) (term other : Term) (old new : List ℕ) : Type 0 where
  pub keeps : (place : ℕ) → Contains old place → Contains new place
  pub are : AreLinks entries set old → AreLinks entries set new
  pub one : Linked (IsNamed entries new) term other
