-- Rows of codes in which the codes after the first tell the first.
use Rattle.std.specs.Prelude.{◌≡◌, ◌≢◌, ℕ, ◌+◌, Bool, true, false, take, List, [], ◌∷◌, Contains}

-- The rows have the same codes but for the first.
abbrev pub IsContrary : List ℕ → List ℕ → Type 0
IsContrary [] other = ⊥
IsContrary (code ∷ key) [] = ⊥
IsContrary (code ∷ key) (more ∷ rest) = (code ≢ more) × (key ≡ rest)

-- None of the rows has the same codes as this one but for the first.
abbrev pub HasNoContrary : List (List ℕ) → List ℕ → Type 0
HasNoContrary rows row = (other : List ℕ) → Contains rows other → IsContrary row other → ⊥

-- In each of the rows the codes after the first tell the first.
abbrev pub AreTold : List (List ℕ) → Type 0
AreTold rows = (row : List ℕ) → Contains rows row → HasNoContrary rows row

-- The answer is whether the row at the place shows that the rows are not told; if not, the rows up to it are told.
abbrev pub ShowsApart : List (List ℕ) → ℕ → Bool → Type 0
ShowsApart rows at true = AreTold rows → ⊥
ShowsApart rows at false = AreTold (take (at + 1) rows)
