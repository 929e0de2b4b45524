-- What a search from some places on leaves.
use Rattle.std.specs.Prelude.{◌≡◌, ◌==◌, ◌↔◌, ◌<◌, ℕ, Bool, true, false, List, [], ◌∷◌, ◌++◌, length, All, if◌then◌else◌}
use Rattle.esto_term.specs.declared.term.Term.{Term}
use Rattle.esto_term.specs.declared.term.Term.TheVariants.{Const}
use Rattle.esto_semantics.specs.Maps.{Keeps}
use Rattle.esto_semantics.specs.declared.fact.Fact.{Fact}
use Rattle.esto_semantics.specs.Valuations.{Assignment, Extends}
use Rattle.esto_query.specs.Matches.{HasNoMatch}
use Rattle.esto_semantics.specs.Matches.{IsMatch, IsBefore, IsAtMost}
use Rattle.esto_query.specs.Trails.{with_trail, Narrows, Grew}
use Rattle.esto_query.specs.declared.trail.Binding.{Binding}

-- The new valuation extends the old one by a match whose places are the given ones or later, and no such match comes before it.
pub record IsLeastFrom (body facts : List (Fact Term)) (from : List ℕ) (old new : Assignment) (places : List ℕ) : Type 0 where
  pub matches : Narrows old new (λ m. IsMatch m body facts places)
  pub within : IsAtMost from places
  pub least : (m : Term → Term) (others : List ℕ) → Keeps Const m → Extends m old → IsMatch m body facts others → IsAtMost from others → IsAtMost places others

-- The search found the least match from the given places on, and trail and places grew by it; or there is none, and they are as before.
abbrev pub Searched : Assignment → List (Fact Term) → List (Fact Term) → List ℕ → List Binding → List Binding → List ℕ → List ℕ → Bool → Type 0
Searched start body facts from old new places_old places_new true =
    (places : List ℕ) × (places_new ≡ places_old ++ places) × Grew old new × IsLeastFrom body facts from (with_trail start old) (with_trail start new) places
Searched start body facts from old new places_old places_new false =
    (places_new ≡ places_old) × (new ≡ old) × HasNoMatch body facts (with_trail start old) (IsAtMost from)

-- The least first place of the lists of places that are not before the given one.
abbrev pub first_from : List ℕ → ℕ
first_from [] = 0
first_from (place ∷ rest) = place

-- What the other places are not to be before, where the first place is taken.
abbrev pub rest_from : List ℕ → ℕ → List ℕ
rest_from [] taken = []
rest_from (place ∷ rest) taken = if place == taken then rest else []

-- Among the lists of this many places below the bound, those that come after the given list are exactly those from the other list on.
abbrev pub Follows : List ℕ → ℕ → ℕ → List ℕ → Type 0
Follows after count bound from =
    (places : List ℕ) → length places ≡ count → All (λ place. place < bound) places → IsAtMost from places ↔ IsBefore after places
