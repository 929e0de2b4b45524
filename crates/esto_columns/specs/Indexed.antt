-- Indexes: the places of keys.
use Rattle.std.specs.Prelude.{◌≡◌, ◌+◌, ◌*◌, ◌%◌, ◌^◌, ◌<◌, ◌≤◌, ℕ, Bool, true, List, [], ◌∷◌, ◌++◌, Some, length, map, slice_get, slice_set, slice_index_or}
use Rattle.esto_columns.specs.Picked.{places_where}

-- An index: for each bucket one more than its last place, and for each place one more than the place before it in its bucket; 0 where there is none.
pub record Index : Type 0 where
  pub last : List ℕ
  pub before : List ℕ

-- The hash with a code taken into it.
unfoldable pub mixed : ℕ → ℕ → ℕ
mixed hash code = ((hash * 11400714819323198485) % 2 ^ 64 + code) % 2 ^ 64

-- The hash of the key, from a hash on.
abbrev pub hash_from : ℕ → List ℕ → ℕ
hash_from hash [] = hash
hash_from hash (code ∷ key) = hash_from (mixed hash code) key

-- The bucket of the key among so many.
abbrev pub bucket_of : ℕ → List ℕ → ℕ
bucket_of count key = hash_from 0 key % count

-- What leads on along the chain of the bucket from below a place: it is 0, or one more than the last place of the bucket that is below that place.
pub record LeadsOn (buckets : List ℕ) (bucket below next : ℕ) : Type 0 where
  pub within : next ≤ below
  pub own : (place : ℕ) → place + 1 ≡ next → slice_get buckets place ≡ Some bucket
  pub past : (place : ℕ) → place < below → slice_get buckets place ≡ Some bucket → place < next

-- For each place, what stands there leads on from below it along the chain of its bucket.
abbrev pub LeadBefore : List ℕ → List ℕ → Type 0
LeadBefore before buckets =
    (place bucket : ℕ) → slice_get buckets place ≡ Some bucket → LeadsOn buckets bucket place (slice_index_or before place 0)

-- The chains are those of places with these buckets.
pub record AreChains (index : Index) (buckets : List ℕ) : Type 0 where
  pub long : length index.before ≡ length buckets
  pub last : (bucket : ℕ) → LeadsOn buckets bucket (length buckets) (slice_index_or index.last bucket 0)
  pub before : LeadBefore index.before buckets

-- The index with the next place on the chain of the bucket.
abbrev pub with_place : Index → ℕ → Index
with_place index bucket = record {
  last = slice_set index.last bucket (length index.before + 1);
  before = index.before ++ slice_index_or index.last bucket 0 ∷ [];
}

-- The index is that of a list of keys, one for each place: its chains are those of their buckets.
abbrev pub IsIndexOf : Index → List (List ℕ) → Type 0
IsIndexOf index listed = AreChains index (map (bucket_of (length index.last)) listed)

-- The places are those of the keys that pass some test, in rising order; the key passes it.
abbrev pub AreAmongPlaces : List ℕ → List (List ℕ) → List ℕ → Type 0
AreAmongPlaces key listed places = (test : List ℕ → Bool) × (test key ≡ true) × (places ≡ places_where test 0 listed)

-- The codes that a row has in the columns.
abbrev pub key_at : List ℕ → List ℕ → List ℕ
key_at columns row = map (λ column. slice_index_or row column 0) columns
