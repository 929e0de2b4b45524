-- Laws of sets, their order, and the minimal sets of a family.
use Rattle.std.specs.Prelude.{◌≡◌, ◌≢◌, ◌↔◌, ℕ, Bool, List, length, Contains, AllPairs}
use Rattle.std.specs.declared.cmp.Ordering.TheVariants.{Equal}
use Rattle.esto_term.specs.Sets.{Has, Within, set_cmp, IsMinimal, AreMinimal, HaveOneCount, AreInOrder, Rises, TellHolds, all_sets}

-- Two sets of one count compare Equal exactly where they are one set.
abbrev pub EqualIsSame : Type 0
EqualIsSame = (set other : List Bool) → length set ≡ length other → (set_cmp set other ≡ Equal) ↔ (set ≡ other)

-- Two sets of one count with the same numbers are one set.
abbrev pub NumbersTellSets : Type 0
NumbersTellSets = (set other : List Bool) → length set ≡ length other → ((number : ℕ) → Has set number ↔ Has other number) → set ≡ other

-- Two sets of one count that are subsets of each other are one set.
abbrev pub WithinBothWays : Type 0
WithinBothWays = (set other : List Bool) → length set ≡ length other → Within set other → Within other set → set ≡ other

-- Two lists in order with the same sets are one list.
abbrev pub OrderIsOne : Type 0
OrderIsOne = (sets others : List (List Bool)) → AreInOrder sets → AreInOrder others → ((set : List Bool) → Contains sets set ↔ Contains others set)
    → sets ≡ others

-- The list of all sets of a count has each set of that count, once, and no other.
abbrev pub AllSetsAreListed : Type 0
AllSetsAreListed = (count : ℕ) → ((set : List Bool) → Contains (all_sets count) set ↔ (length set ≡ count)) × AllPairs ◌≢◌ (all_sets count)

-- No minimal set is a subset of another.
abbrev pub MinimalAreApart : Type 0
MinimalAreApart =
    (family minimal : List (List Bool)) → AreMinimal family minimal
    → (set other : List Bool) → Contains minimal set → Contains minimal other → Within set other → set ≡ other

-- Each set of a family has a minimal one within it.
abbrev pub MinimalCover : Type 0
MinimalCover =
    (family minimal : List (List Bool)) → AreMinimal family minimal
    → (set : List Bool) → Contains family set → (kept : List Bool) × Contains minimal kept × Within kept set

-- Each family of one count has its minimal sets, in order.
abbrev pub MinimalExist : Type 0
MinimalExist = (family : List (List Bool)) → HaveOneCount family → (minimal : List (List Bool)) × AreMinimal family minimal × AreInOrder minimal

-- Two lists of the minimal sets of a family have the same sets.
abbrev pub MinimalAreOne : Type 0
MinimalAreOne =
    (family minimal others : List (List Bool)) → AreMinimal family minimal → AreMinimal family others
    → (set : List Bool) → Contains minimal set ↔ Contains others set

-- Where P rises, the minimal sets of the count that P holds of tell where P holds.
abbrev pub MinimalTell : ℕ → (List Bool → Type 0) → Type 0
MinimalTell count P =
    Rises count P → (sets : List (List Bool)) → ((set : List Bool) → Contains sets set ↔ IsMinimal (λ it. (length it ≡ count) × P it) set)
    → TellHolds count P sets
