-- Codes that are among others, keys of rows with which several codes come, and rows that are wanted.
use Rattle.std.specs.Prelude.{◌≡◌, ◌≢◌, ◌⊎◌, ℕ, Bool, List, [], ◌∷◌, Some, take, length, slice_get, nat_eq, Contains, IsTrue}
use Rattle.std.specs.List.{list_all}
use Rattle.std.specs.Set.{is_member}
use Rattle.esto_columns.specs.Indexed.{IsIndexOf}
use Rattle.esto_columns.specs.RowIndexes.{StandsLast}
use Rattle.esto_rows.specs.Told.{IsContrary}
use Rattle.esto_rows.specs.declared.keys.Keys.{Keys}
use Rattle.esto_rows.specs.declared.wanted.Wanted.{Wanted}
use Rattle.esto_rows.specs.declared.wanted.Wanted.TheVariants.{Unequal, Apart}

-- Whether each code of the row is one of the codes.
abbrev pub are_among : List ℕ → List ℕ → Bool
are_among codes row = list_all (is_member nat_eq codes) row

-- The codes of the row have come to the old ones.
pub record TakesIn (row old new : List ℕ) : Type 0 where
  pub here : IsTrue (are_among new row)
  pub stay : (other : List ℕ) → IsTrue (are_among old other) → IsTrue (are_among new other)

-- The first two codes of the row are not the same.
abbrev pub AreUnequal : List ℕ → Type 0
AreUnequal [] = ⊥
AreUnequal (code ∷ []) = ⊥
AreUnequal (code ∷ other ∷ rest) = code ≢ other

-- The row's key, the codes after the first, stands among the keys; the row's first code is the first that came with it, or the key is one of those with
-- which several came.
pub record IsKnown (keys : Keys) (code : ℕ) (key : List ℕ) : Type 0 where
  pub place : ℕ
  pub stands : StandsLast keys.keys.rows key place
  pub told : (slice_get keys.codes place ≡ Some code) ⊎ IsTrue (is_member nat_eq keys.apart place)

-- The keys are those of the rows, each once, with the first code that came with it.
pub record Know (keys : Keys) (rows : List (List ℕ)) : Type 0 where
  pub index : IsIndexOf keys.index keys.keys.rows
  pub long : length keys.codes ≡ length keys.keys.rows
  pub known : (code : ℕ) (key : List ℕ) → Contains rows (code ∷ key) → IsKnown keys code key

-- The row is one of rows with these keys, and another of them has the same codes but for the first.
pub record IsApart (keys : Keys) (row : List ℕ) : Type 0 where
  pub rows : List (List ℕ)
  pub know : Know keys rows
  pub inside : Contains rows row
  pub other : List ℕ
  pub among : Contains rows other
  pub contrary : IsContrary row other

-- The row is one of those that are wanted.
abbrev pub IsWanted : Wanted → List ℕ → Type 0
IsWanted Unequal row = AreUnequal row
IsWanted (Apart width keys) row = IsApart keys (take width row)

-- The row's codes have come to the old ones, at least where the row is wanted.
pub record PutsWanted (wanted : Wanted) (row old new : List ℕ) : Type 0 where
  pub here : IsWanted wanted row → IsTrue (are_among new row)
  pub stay : (other : List ℕ) → IsTrue (are_among old other) → IsTrue (are_among new other)

-- The codes have those of each of the rows that is wanted.
abbrev pub HaveWanted : Wanted → List (List ℕ) → List ℕ → Type 0
HaveWanted wanted rows codes = (row : List ℕ) → Contains rows row → IsWanted wanted row → IsTrue (are_among codes row)

-- The codes have those of each row with which another has the same codes among the first so many but for the first.
abbrev pub HaveApart : ℕ → List (List ℕ) → List ℕ → Type 0
HaveApart width rows codes =
    (row other : List ℕ) → Contains rows row → Contains rows other → IsContrary (take width row) (take width other) → IsTrue (are_among codes row)
