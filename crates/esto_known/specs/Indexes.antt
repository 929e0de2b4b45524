-- Indexes of claims, and entries that cover a claim.
use Rattle.std.specs.Prelude.{◌≡◌, ◌⊎◌, ℕ, Bool, List, Some, map, Contains, slice_get}
use Rattle.esto_term.specs.declared.term.Term.{Term}
use Rattle.esto_term.specs.Sets.{Within}
use Rattle.esto_columns.specs.Indexed.{IsIndexOf}
use Rattle.esto_chase_laws.specs.Claims.{AreSameClaim}
use Rattle.esto_chase_laws.specs.declared.entry.Claim.{Claim}
use Rattle.esto_chase_laws.specs.declared.entry.Claim.TheVariants.{Fact as Stated, Same}
use Rattle.esto_chase_laws.specs.declared.entry.Entry.{Entry}
use Rattle.esto_known.specs.Hashes.{claim_key, first_key, second_key}
use Rattle.esto_known.specs.declared.keys.Keys.{Keys}

-- The indexes are those of the claims, one place for each.
pub record AreKeysOf (keys : Keys) (claims : List Claim) : Type 0 where
  pub by_claim : IsIndexOf keys.by_claim (map claim_key claims)
  pub by_first : IsIndexOf keys.by_first (map first_key claims)
  pub by_second : IsIndexOf keys.by_second (map second_key claims)

-- The term is a side of the claim, which is an equality.
abbrev pub HasSide : Claim → Term → Type 0
HasSide (Stated fact) term = ⊥
HasSide (Same left right) term = (left ≡ term) ⊎ (right ≡ term)

-- Some entry has the claim, with a product within the set.
abbrev pub CoversClaim : List Entry → Claim → List Bool → Type 0
CoversClaim entries claim product = (entry : Entry) × Contains entries entry × AreSameClaim entry.claim claim × Within entry.product product

-- The entry at the place has the claim, with a product within the set.
abbrev pub CoversAt : List Entry → Claim → List Bool → ℕ → Type 0
CoversAt entries claim product place =
    (entry : Entry) × (slice_get entries place ≡ Some entry) × AreSameClaim entry.claim claim × Within entry.product product
