-- Fragments that are asked by their first column.
use Rattle.std.specs.Prelude.{◌≡◌, ℕ, ◌<◌, List, [], ◌∷◌, map, length, Contains}
use Rattle.esto_columns.specs.declared.stored.StoredRows.{StoredRows}
use Rattle.esto_steps.specs.declared.steps.Get.{Get}
use Rattle.esto_part_cases.specs.declared.refusing.Flagged.{Flagged}

-- The rows have one column, and may be asked by it alone.
abbrev pub IsOpen : StoredRows → Type 0
IsOpen stored = (stored.rows.arity ≡ 1) × (stored.ways ≡ (0 ∷ []) ∷ [])

-- There are so many fragments, and each may be asked by its first column.
pub record AreOpen (count : ℕ) (fragments : List Flagged) : Type 0 where
  pub number : length fragments ≡ count
  pub asked : (fragment : Flagged) → Contains fragments fragment → IsOpen fragment.stored

-- Each get names one of so many fragments, and asks it by its first column.
abbrev pub AskEach : ℕ → List Get → Type 0
AskEach count gets = (get : Get) → Contains gets get → (get.fragment < count) × (map (λ link. link.column) get.inputs ≡ 0 ∷ [])
