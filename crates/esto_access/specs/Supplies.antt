-- Access products: the least sets of a plan's atoms in which an atom is reached. Source: executable plans under binding patterns.
use Rattle.std.specs.Prelude.{◌≡◌, ◌↔◌, ℕ, Bool, List, [], Some, length, slice_get, slice_index_or, Contains}
use Rattle.esto_term.specs.declared.term.Term.{Term}
use Rattle.esto_semantics.specs.Access.{Patterns, IsAccessiblePart}
use Rattle.esto_term.specs.Sets.{Has, IsMinimal, Covers}
use Rattle.esto_semantics.specs.declared.fact.Fact.{Fact}
use Rattle.esto_bits.specs.Kept.{Kept, kept}

-- The atom of the number is reached in the set of the atoms: the accessible part of the set has it.
pub record IsReachedIn (patterns : Patterns) (atoms : List (Fact Term)) (number : ℕ) (set : List Bool) : Type 0 where
  pub over : length set ≡ length atoms
  pub part : List Bool
  pub is_part : IsAccessiblePart patterns atoms set part
  pub has : Has part number

-- These are the atom's access products: the minimal sets in which it is reached.
abbrev pub AreAccessProducts : Patterns → List (Fact Term) → ℕ → List (List Bool) → Type 0
AreAccessProducts patterns atoms number sets = (set : List Bool) → Contains sets set ↔ IsMinimal (IsReachedIn patterns atoms number) set

-- Something holds of each number and the products that are kept for it.
abbrev pub EachIs : (ℕ → Kept → Type 0) → List Kept → Type 0
EachIs P supplies = (number : ℕ) (products : Kept) → slice_get supplies number ≡ Some products → P number products

-- The sets that are kept for a number.
abbrev pub sets_at : List Kept → ℕ → List (List Bool)
sets_at supplies number = (slice_index_or supplies number (kept 0 [])).sets

-- The number is supplied in the set: one of the sets that are kept for it is a subset.
abbrev pub IsSupplied : List Kept → List Bool → ℕ → Type 0
IsSupplied supplies set number = Covers (sets_at supplies number) set

-- The family covers just the sets of which it holds.
abbrev pub CoversWhere : (List Bool → Type 0) → List (List Bool) → Type 0
CoversWhere P family = (set : List Bool) → Covers family set ↔ P set
