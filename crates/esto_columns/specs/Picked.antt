-- Places that are picked.
use Rattle.std.specs.Prelude.{◌==◌, ℕ, ◌+◌, Bool, cond, List, [], ◌∷◌, map, slice_index_or}

-- Places, and the room that is left for more.
pub record PickList : Type 0 where
  pub items : List ℕ
  pub spare : ℕ

-- The places of the things that pass the test, in rising order, counted from a place on.
abbrev pub places_where : {X : Type 0} → (X → Bool) → ℕ → List X → List ℕ
places_where test from [] = []
places_where test from (first ∷ rest) = cond (test first) (from ∷ places_where test (from + 1) rest) (places_where test (from + 1) rest)

-- The places of the code in the codes, in rising order, counted from a place on.
abbrev pub places_of : ℕ → ℕ → List ℕ → List ℕ
places_of from code codes = places_where (λ held. held == code) from codes

-- The rows at the places.
abbrev pub rows_at : List (List ℕ) → List ℕ → List (List ℕ)
rows_at rows places = map (λ place. slice_index_or rows place []) places
