-- Buckets: lists of places, found by hashes.
use Rattle.std.specs.Prelude.{◌<◌, ◌%◌, ℕ, List, [], ◌∷◌, ◌++◌, length, slice_set, slice_index_or, Contains}
use Rattle.esto_table.specs.Places.{IsRising}

-- The places in the bucket of the hash.
abbrev pub places_at : List (List ℕ) → ℕ → List ℕ
places_at buckets hash = slice_index_or buckets (hash % length buckets) []

-- The buckets with one more place in that of the hash.
abbrev pub with_place : List (List ℕ) → ℕ → ℕ → List (List ℕ)
with_place buckets hash place = slice_set buckets (hash % length buckets) (places_at buckets hash ++ place ∷ [])

-- The places of each bucket rise, and are below the bound.
pub record AreRising (buckets : List (List ℕ)) (bound : ℕ) : Type 0 where
  pub below : (bucket place : ℕ) → Contains (slice_index_or buckets bucket []) place → place < bound
  pub rising : (bucket : ℕ) → IsRising (slice_index_or buckets bucket [])
