-- Live entries of a claim, and what is new among them.
use Rattle.std.specs.Prelude.{◌≡◌, ◌⊎◌, ◌<◌, ◌≤◌, ℕ, Bool, List, Contains, Some, slice_get}
use Rattle.esto_term.specs.declared.term.Term.{Term}
use Rattle.esto_term.specs.Sets.{Within}
use Rattle.esto_semantics.specs.declared.fact.Fact.{Fact}
use Rattle.esto_chase_laws.specs.Worlds.{SaysOne}
use Rattle.esto_chase_laws.specs.declared.entry.Claim.{Claim}
use Rattle.esto_chase_laws.specs.declared.entry.Claim.TheVariants.{Fact as Stated}
use Rattle.esto_chase_laws.specs.declared.entry.Entry.{Entry}
use Rattle.esto_known.specs.Indexes.{HasSide}

-- A later entry, or the one at the place itself, says it at one of the places, with a product within that of this one.
abbrev pub HasLater : List Entry → List ℕ → (Claim → Type 0) → ℕ → Entry → Type 0
HasLater entries places Says place entry =
    (later : ℕ) × (its : Entry) × Contains places later × place ≤ later × (slice_get entries later ≡ Some its) × Says its.claim
    × Within its.product entry.product

-- Among the places is one for each entry that says so.
abbrev pub AreAllLive : List Entry → List ℕ → (Claim → Type 0) → Type 0
AreAllLive entries places Says = (place : ℕ) (entry : Entry) → slice_get entries place ≡ Some entry → Says entry.claim
    → HasLater entries places Says place entry

-- Among the places is one for each entry that states a fact of the relation.
abbrev pub AreAllFacts : List Entry → ℕ → List ℕ → Type 0
AreAllFacts entries relation places = (fact : Fact Term) → fact.relation ≡ relation → AreAllLive entries places (λ claim. claim ≡ Stated fact)

-- No equality with the term stands from a place on.
abbrev pub IsUnlinked : List Entry → ℕ → Term → Type 0
IsUnlinked entries since own = (place : ℕ) (entry : Entry) → slice_get entries place ≡ Some entry → HasSide entry.claim own → place < since

-- The entry at the place is one of the first few, and no equality from there on has a term of its fact.
abbrev pub IsStale : List Entry → ℕ → ℕ → Type 0
IsStale entries since place = place < since
    × ((entry : Entry) (fact : Fact Term) → slice_get entries place ≡ Some entry → entry.claim ≡ Stated fact → (own : Term) → Contains fact.terms own
    → IsUnlinked entries since own)

-- The fresh ones are among the places of facts all but stale ones.
abbrev pub AreFresh : List Entry → ℕ → List ℕ → List ℕ → Type 0
AreFresh entries since facts fresh = (place : ℕ) → Contains facts place → Contains fresh place ⊎ IsStale entries since place

-- Each of the places is one of the first few.
abbrev pub AreOld : ℕ → List ℕ → Type 0
AreOld since places = (place : ℕ) → Contains places place → place < since

-- The entry at the place, from a place on, is an equality of the terms, whose product is within the set.
abbrev pub IsFreeLink : List Entry → ℕ → Term → Term → List Bool → ℕ → Type 0
IsFreeLink entries floor own goal product place =
    (entry : Entry) × floor ≤ place × (slice_get entries place ≡ Some entry) × SaysOne entry.claim own goal × Within entry.product product
