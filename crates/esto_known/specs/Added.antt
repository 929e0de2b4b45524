-- Entries that are added where they are not covered.
use Rattle.std.specs.Prelude.{◌≡◌, ◌⊎◌, ◌≤◌, ℕ, Bool, List, [], ◌∷◌, ◌++◌, length, Contains, Some, slice_get}
use Rattle.esto_semantics.specs.Rules.{Rule}
use Rattle.esto_term.specs.Sets.{Within}
use Rattle.esto_semantics.specs.declared.expanded.ExpandedFact.{ExpandedFact}
use Rattle.esto_chase_laws.specs.Worlds.{InWorld}
use Rattle.esto_chase_laws.specs.WorldSteps.{IsCovered}
use Rattle.esto_chase_laws.specs.Derived.{AreDerived, AreNew, Follows}
use Rattle.esto_chase_laws.specs.declared.entry.Claim.{Claim}
use Rattle.esto_chase_laws.specs.declared.entry.Claim.TheVariants.{Fact as Stated, Same}
use Rattle.esto_chase_laws.specs.declared.entry.Reason.{Reason}
use Rattle.esto_chase_laws.specs.declared.entry.Entry.{Entry}
use Rattle.esto_known.specs.declared.turns.Turn.{Turn}

-- The later list has one entry more, which was not covered, or none, and then the claim was covered.
abbrev pub IsAdded : List Entry → Claim → List Bool → Reason → List Entry → Type 0
IsAdded entries claim product reason later =
    (IsCovered (InWorld entries product) claim × (later ≡ entries))
    ⊎ ((IsCovered (InWorld entries product) claim → ⊥) × (later ≡ entries ++ (record { claim = claim; product = product; reason = reason }) ∷ []))

-- The claim is an equality of a term with itself.
abbrev pub IsTrivial : Claim → Type 0
IsTrivial (Stated fact) = ⊥
IsTrivial (Same left right) = left ≡ right

-- In each world that has the product, the claim is covered.
abbrev pub IsThere : List Entry → Claim → List Bool → Type 0
IsThere entries claim product = (atoms : List Bool) → Within product atoms → IsCovered (InWorld entries atoms) claim

-- The entry follows from the entries by the rules, and its product has the count.
pub record IsFollowing (rules : List Rule) (count : ℕ) (entries : List Entry) (entry : Entry) : Type 0 where
  pub follows : (expanded : List ExpandedFact) → Follows expanded rules entries entry.claim entry.product entry.reason
  pub counted : length entry.product ≡ count

-- The later entries are the earlier ones, and perhaps others after them; they are derived, and new, where the earlier ones are; and they cover each entry that
-- is so.
pub record IsGrown (rules : List Rule) (entries : List Entry) (IsSo : Entry → Type 0) (later : List Entry) : Type 0 where
  pub more : (others : List Entry) × (later ≡ entries ++ others)
  pub derived : (expanded : List ExpandedFact) → AreDerived expanded rules entries → AreDerived expanded rules later
  pub new : AreNew entries → AreNew later
  pub there : (entry : Entry) → IsSo entry → IsThere later entry.claim entry.product

-- The entries have grown so, and cover all that was asked for.
abbrev pub IsGrownBy : List Rule → List Entry → List Entry → List Entry → Type 0
IsGrownBy rules entries asked later = IsGrown rules entries (Contains asked) later

-- The entry at the place is added to the entries, if there is one.
abbrev pub IsAddedAt : List Entry → List Entry → ℕ → List Entry → Type 0
IsAddedAt entries asked place later =
    ((entry : Entry) × (slice_get asked place ≡ Some entry) × IsAdded entries entry.claim entry.product entry.reason later)
    ⊎ ((length asked ≤ place) × (later ≡ entries))

-- The entries have grown so, and cover what was asked for in these turns.
abbrev pub IsGrownIn : List Rule → List Entry → List Entry → List Turn → List Entry → Type 0
IsGrownIn rules entries asked turns later =
    IsGrown rules entries (λ entry. (turn : Turn) × Contains turns turn × (slice_get asked turn.place ≡ Some entry)) later
