-- Sets of numbers below a count. A set is the list of the answers to "is it in?", one for each number; so two sets of one count are equal exactly where they
-- have the same numbers.
use Rattle.std.specs.Prelude.{◌≡◌, ◌≢◌, ◌↔◌, ℕ, zero, suc, ◌+◌, Bool, true, false, cond, ◌||◌, List, [], ◌∷◌, ◌++◌, map, length, slice_index_or, Contains}
use Rattle.std.specs.Prelude.{AllPairs}
use Rattle.std.specs.declared.cmp.Ordering.{Ordering}
use Rattle.std.specs.declared.cmp.Ordering.TheVariants.{Less}
use Rattle.std.specs.Ordering.{ordering_then, nat_cmp}
use Rattle.std.specs.Cmp.Lexicographic.{slice_cmp}

-- The set has the number.
abbrev pub Has : List Bool → ℕ → Type 0
Has set number = slice_index_or set number false ≡ true

-- The one set is a subset of the other.
abbrev pub Within : List Bool → List Bool → Type 0
Within set other = (number : ℕ) → Has set number → Has other number

-- The numbers of a set, rising, where its first place stands for `from`.
abbrev pub numbers_from : ℕ → List Bool → List ℕ
numbers_from from [] = []
numbers_from from (is_in ∷ rest) = cond is_in (from ∷ numbers_from (from + 1) rest) (numbers_from (from + 1) rest)

-- The numbers of a set, rising.
abbrev pub numbers : List Bool → List ℕ
numbers set = numbers_from 0 set

-- The order of the list: by size, then by the rising lists of numbers, compared as lists.
abbrev pub set_cmp : List Bool → List Bool → Ordering
set_cmp set other =
    ordering_then (nat_cmp (length (numbers set)) (length (numbers other))) (slice_cmp nat_cmp (numbers set) (numbers other))

-- The set is minimal among those that P holds of, which are sets of one count: no proper subset of it is one of them. Of one count, a subset is the set
-- itself exactly where it is no proper one.
abbrev pub IsMinimal : (List Bool → Type 0) → List Bool → Type 0
IsMinimal P set = P set × ((other : List Bool) → P other → Within other set → other ≡ set)

-- The sets stand in the order of the list, each once.
abbrev pub AreInOrder : List (List Bool) → Type 0
AreInOrder sets = AllPairs (λ set other. set_cmp set other ≡ Less) sets

-- These are exactly the minimal sets that P holds of, in the order of the list, each once. That P holds of sets of one count alone, as IsMinimal asks, is
-- P's own part: each property that is listed asks that the set be one of the plan's atoms.
pub record AreListedBy (P : List Bool → Type 0) (sets : List (List Bool)) : Type 0 where
  pub exact : (set : List Bool) → Contains sets set ↔ IsMinimal P set
  pub ordered : AreInOrder sets

-- Each set that P holds of has this count.
abbrev pub HaveCount : ℕ → (List Bool → Type 0) → Type 0
HaveCount count P = (set : List Bool) → P set → length set ≡ count

-- The sets of the family are of one count.
abbrev pub HaveOneCount : List (List Bool) → Type 0
HaveOneCount family = (set other : List Bool) → Contains family set → Contains family other → length set ≡ length other

-- The family has sets of one count, and these are the minimal ones of them, each once.
pub record AreMinimal (family minimal : List (List Bool)) : Type 0 where
  pub counted : HaveOneCount family
  pub exact : (set : List Bool) → Contains minimal set ↔ IsMinimal (Contains family) set
  pub once : AllPairs ◌≢◌ minimal

-- The union of two sets.
abbrev pub united : List Bool → List Bool → List Bool
united [] other = other
united (is_in ∷ rest) [] = is_in ∷ rest
united (is_in ∷ rest) (is_in_other ∷ others) = (is_in || is_in_other) ∷ united rest others

-- Some set of the family is a subset of the set.
abbrev pub Covers : List (List Bool) → List Bool → Type 0
Covers family set = (other : List Bool) × Contains family other × Within other set

-- All sets of numbers below the count.
abbrev pub all_sets : ℕ → List (List Bool)
all_sets zero = [] ∷ []
all_sets (suc count) = map (λ set. true ∷ set) (all_sets count) ++ map (λ set. false ∷ set) (all_sets count)

-- The sets tell where P holds: of the sets of this count that have one of them as a subset.
abbrev pub TellHolds : ℕ → (List Bool → Type 0) → List (List Bool) → Type 0
TellHolds count P sets = (set : List Bool) → length set ≡ count → Covers sets set ↔ P set

-- What P holds of, it holds of every greater set of the count.
abbrev pub Rises : ℕ → (List Bool → Type 0) → Type 0
Rises count P = (set other : List Bool) → length set ≡ count → length other ≡ count → Within set other → P set → P other
