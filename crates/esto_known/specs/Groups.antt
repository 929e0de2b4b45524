-- Groups of entries by their claims.
use Rattle.std.specs.Prelude.{◌≡◌, ◌↔◌, ◌⊎◌, ◌≤◌, ℕ, Bool, List, [], ◌∷◌, Some, map, length, Contains, slice_get}
use Rattle.esto_term.specs.declared.term.Term.{Term}
use Rattle.esto_term.specs.Sets.{Covers, Within}
use Rattle.esto_semantics.specs.declared.fact.Fact.{Fact}
use Rattle.esto_chase_laws.specs.Claims.{AreSameClaim}
use Rattle.esto_chase_laws.specs.Worlds.{AreOfCount, SaysOne}
use Rattle.esto_chase_laws.specs.declared.entry.Claim.{Claim}
use Rattle.esto_chase_laws.specs.declared.entry.Claim.TheVariants.{Fact as Stated}
use Rattle.esto_chase_laws.specs.declared.entry.Entry.{Entry}
use Rattle.esto_known.specs.Indexes.{CoversClaim, CoversAt}
use Rattle.esto_known.specs.declared.group.Group.{Group}

-- The group is that of all entries of its claim: each of its places is that of such an entry; its sets cover just those in whose worlds the claim is; and
-- each such entry stands at one of its places, or one that stands later and covers it.
pub record IsGroup (entries : List Entry) (group : Group) : Type 0 where
  pub claimed : (place : ℕ) → Contains group.places place → (entry : Entry) × (slice_get entries place ≡ Some entry) × AreSameClaim entry.claim group.claim
  pub exact : (set : List Bool) → Covers group.by.sets set ↔ CoversClaim entries group.claim set
  pub live : (place : ℕ) (entry : Entry) → slice_get entries place ≡ Some entry → AreSameClaim entry.claim group.claim
      → (later : ℕ) × Contains group.places later × place ≤ later × CoversAt entries group.claim entry.product later
  pub counted : (count : ℕ) → AreOfCount count entries → group.by.count ≡ count

-- Each is a group of the entries, each entry's claim has one, and no claim has two.
pub record AreGroups (entries : List Entry) (groups : List Group) : Type 0 where
  pub each : (group : Group) → Contains groups group → IsGroup entries group
  pub all : (entry : Entry) → Contains entries entry → (group : Group) × Contains groups group × AreSameClaim entry.claim group.claim
  pub distinct : (place other : ℕ) (group its : Group) → slice_get groups place ≡ Some group → slice_get groups other ≡ Some its
      → AreSameClaim group.claim its.claim → place ≡ other

-- The claims of the groups.
abbrev pub claims_of : List Group → List Claim
claims_of groups = map (λ (group : Group). group.claim) groups

-- The group at the place is that of the fact.
abbrev pub StatesAt : List Group → Fact Term → ℕ → Type 0
StatesAt groups fact place = (group : Group) × (slice_get groups place ≡ Some group) × (group.claim ≡ Stated fact)

-- The group at the place is that of an equality of the two terms.
abbrev pub LinksAt : List Group → Term → Term → ℕ → Type 0
LinksAt groups term other place = (group : Group) × (slice_get groups place ≡ Some group) × SaysOne group.claim term other

-- The places that are left are some of these, all but those of entries that rest on all of the set.
pub record AreLeft (entries : List Entry) (product : List Bool) (places left : List ℕ) : Type 0 where
  pub of_given : (place : ℕ) → Contains left place → Contains places place
  pub others : (place : ℕ) (entry : Entry) → Contains places place → slice_get entries place ≡ Some entry
      → Contains left place ⊎ Within product entry.product

-- The group is that of one entry, at the place.
pub record IsOfOne (place : ℕ) (entry : Entry) (group : Group) : Type 0 where
  pub claim : group.claim ≡ entry.claim
  pub places : group.places ≡ place ∷ []
  pub count : group.by.count ≡ length entry.product
  pub covers : (set : List Bool) → Covers group.by.sets set ↔ Within entry.product set
