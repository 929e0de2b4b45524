-- Rows of texts that are lent, as contracts see them.
use Rattle.std.specs.Prelude.{◌≡◌, ◌↔◌, ◌++◌, ℕ, zero, suc, List, [], ◌∷◌, Some, map, take, drop, slice_get, Contains, AllPairs}
use Rattle.std.specs.Borrow.{Bor}
use Rattle.std.specs.Cmp.Lexicographic.{slice_cmp}
use Rattle.std.specs.Ordering.{nat_cmp}
use Rattle.std.specs.declared.cmp.Ordering.TheVariants.{Less}

-- The texts of a row that are lent.
abbrev pub lent_row : Bor (List (Bor (List ℕ))) → List (List ℕ)
lent_row row = map (λ text. text.now) row.now

-- The rows of the texts that are lent.
abbrev pub lent_rows : List (Bor (List (Bor (List ℕ)))) → List (List (List ℕ))
lent_rows rows = map lent_row rows

-- So many rows of so many items each, which stand row after row in the list.
abbrev pub rows_in : {X : Type 0} → ℕ → ℕ → List X → List (List X)
rows_in arity zero items = []
rows_in arity (suc count) items = take arity items ∷ rows_in arity count (drop arity items)

-- The new texts are the old ones and then those of the codes.
abbrev pub AddsTextsOf : List (List ℕ) → List ℕ → List (List ℕ) → List (List ℕ) → Type 0
AddsTextsOf texts codes old new = map Some new ≡ map Some old ++ map (slice_get texts) codes

-- Each row of texts comes before each later one, cell by cell by bytes, so none comes twice.
abbrev pub AreRising : List (List (List ℕ)) → Type 0
AreRising rows = AllPairs (λ row other. slice_cmp (slice_cmp nat_cmp) row other ≡ Less) rows

-- Rising rows are one list where they are the same rows.
abbrev pub RisingRowsAreOne : Type 0
RisingRowsAreOne =
    (rows others : List (List (List ℕ))) → AreRising rows → AreRising others → ((row : List (List ℕ)) → Contains rows row ↔ Contains others row)
    → rows ≡ others
