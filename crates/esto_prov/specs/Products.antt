-- The products of a claim among entries.
use Rattle.std.specs.Prelude.{◌≡◌, ◌⊎◌, ℕ, Bool, List, [], ◌∷◌, length, Contains}
use Rattle.esto_bits.specs.Kept.{with_set}
use Rattle.esto_chase_laws.specs.Claims.{AreSameClaim}
use Rattle.esto_chase_laws.specs.declared.entry.Claim.{Claim}
use Rattle.esto_chase_laws.specs.declared.entry.Entry.{Entry}

-- The count of the first entry's product, or 0 where there is no entry. All products of entries are of one count.
abbrev pub count_of : List Entry → ℕ
count_of [] = 0
count_of (entry ∷ entries) = length entry.product

-- The set is the product of an entry with that claim.
abbrev pub IsProductOf : List Entry → Claim → List Bool → Type 0
IsProductOf entries claim set = (entry : Entry) × Contains entries entry × AreSameClaim entry.claim claim × (entry.product ≡ set)

-- The entry's product is added to the sets where it has the claim; else they stay.
abbrev pub AddsProduct : Entry → Claim → List (List Bool) → List (List Bool) → Type 0
AddsProduct entry claim sets later =
    (AreSameClaim entry.claim claim × (later ≡ with_set sets entry.product)) ⊎ (¬ (AreSameClaim entry.claim claim) × (later ≡ sets))
