-- Antichains of sets, and what stays of a family when only minimal sets are kept.
use Rattle.std.specs.Prelude.{◌≡◌, ◌↔◌, ◌⊎◌, ℕ, Bool, true, cond, not, ◌||◌, ◌&&◌, List, [], ◌∷◌, ◌++◌, length, map, take, filter, All, AllPairs, Contains}
use Rattle.std.specs.List.{list_any}
use Rattle.esto_term.specs.Sets.{Within, Covers, AreMinimal, united}

-- What products keep: the count that numbers are below, and the sets.
pub record Kept : Type 0 where
  pub count : ℕ
  pub sets : List (List Bool)

-- These sets, of this count.
abbrev pub kept : ℕ → List (List Bool) → Kept
kept count sets = record { count = count; sets = sets }

-- Each set has this count.
abbrev pub AreOver : ℕ → List (List Bool) → Type 0
AreOver count sets = All (λ set. length set ≡ count) sets

-- No set is a subset of another, nor stands twice.
abbrev pub IsAntichain : List (List Bool) → Type 0
IsAntichain sets = AllPairs (λ set other. (¬ (Within set other)) × (¬ (Within other set))) sets

-- The one set is a subset of the other, as a test.
abbrev pub is_within : List Bool → List Bool → Bool
is_within [] others = true
is_within (is_in ∷ rest) [] = not is_in && is_within rest []
is_within (is_in ∷ rest) (in_other ∷ others) = (not is_in || in_other) && is_within rest others

-- Some set of the family is a subset of the set, as a test.
abbrev pub is_covered : List (List Bool) → List Bool → Bool
is_covered family set = list_any (λ member. is_within member set) family

-- The later family covers just what the earlier one does, and what the set covers.
abbrev pub CoversAlso : List (List Bool) → List Bool → List (List Bool) → Type 0
CoversAlso earlier row later = (set : List Bool) → Covers later set ↔ (Covers earlier set ⊎ Within row set)

-- The later family covers just what the earlier one and the others do.
abbrev pub CoversEither : List (List Bool) → List (List Bool) → List (List Bool) → Type 0
CoversEither earlier others later = (set : List Bool) → Covers later set ↔ (Covers earlier set ⊎ Covers others set)

-- The joined family covers just what both families cover.
abbrev pub CoversBoth : List (List Bool) → List (List Bool) → List (List Bool) → Type 0
CoversBoth one other joined = (set : List Bool) → Covers joined set ↔ (Covers one set × Covers other set)

-- The later family covers what the earlier one does, and else only what both others cover.
abbrev pub AddsOfBoth : List (List Bool) → List (List Bool) → List (List Bool) → List (List Bool) → Type 0
AddsOfBoth earlier sets others later =
    (set : List Bool) → (Covers earlier set → Covers later set) × (Covers later set → Covers earlier set ⊎ (Covers sets set × Covers others set))

-- The two families cover the same beside what the others cover.
abbrev pub CoverAlikeBeside : List (List Bool) → List (List Bool) → List (List Bool) → Type 0
CoverAlikeBeside others one other = (set : List Bool) → (Covers one set ⊎ Covers others set) ↔ (Covers other set ⊎ Covers others set)

-- The later family covers just what the earlier one does, and what the set covers, beside what the others cover.
abbrev pub CoversAlsoBeside : List (List Bool) → List (List Bool) → List Bool → List (List Bool) → Type 0
CoversAlsoBeside others earlier row later =
    (set : List Bool) → (Covers later set ⊎ Covers others set) ↔ ((Covers earlier set ⊎ Within row set) ⊎ Covers others set)

-- Some set of the family is a superset of the set.
abbrev pub HasSuperset : List (List Bool) → List Bool → Type 0
HasSuperset family set = (other : List Bool) × Contains family other × Within set other

-- The sets with one set more, unless that is a superset of `row`.
abbrev pub unless_superset : List Bool → List (List Bool) → List Bool → List (List Bool)
unless_superset row sets set = cond (is_within row set) sets (sets ++ set ∷ [])

-- The sets of the family that are no supersets of `row`, and behind them this set.
abbrev pub in_place_of_supersets : List (List Bool) → List Bool → List (List Bool)
in_place_of_supersets sets row = filter (λ set. not (is_within row set)) sets ++ row ∷ []

-- What is kept after one set more: all as before where it is covered, and else it and the sets that are no supersets of it.
abbrev pub with_set : List (List Bool) → List Bool → List (List Bool)
with_set sets row = cond (is_covered sets row) sets (in_place_of_supersets sets row)

-- What is kept after these sets more, one after the other.
abbrev pub with_sets : List (List Bool) → List (List Bool) → List (List Bool)
with_sets sets [] = sets
with_sets sets (row ∷ rows) = with_sets (with_set sets row) rows

-- What is kept after the first few of these sets more: where memory is wanting the others aren't added.
abbrev pub HasFirst : List (List Bool) → List (List Bool) → List (List Bool) → Type 0
HasFirst sets rows later = (count : ℕ) × (later ≡ with_sets sets (take count rows))

-- The unions of a set of the one family with a set of the other, in every combination.
abbrev pub unions : List (List Bool) → List (List Bool) → List (List Bool)
unions [] others = []
unions (set ∷ sets) others = map (united set) others ++ unions sets others

-- Where the kept sets are the minimal ones of a family of sets of one count, they still are after one set more.
abbrev pub OneMoreIsMinimal : Type 0
OneMoreIsMinimal =
    (count : ℕ) (family sets : List (List Bool)) (row : List Bool) → AreOver count family → length row ≡ count
    → AreMinimal family sets → AreMinimal (family ++ row ∷ []) (with_set sets row)

-- After any list of sets of one count the kept sets are exactly the minimal ones of them, each once.
abbrev pub KeptAreMinimal : Type 0
KeptAreMinimal = (count : ℕ) (family : List (List Bool)) → AreOver count family → AreMinimal family (with_sets [] family)
