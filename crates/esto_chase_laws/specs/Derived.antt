-- How an entry follows from those before it, and when it is new beside them.
use Rattle.std.specs.Prelude.{◌≡◌, ◌≢◌, ◌⊎◌, ◌↔◌, ℕ, ◌<◌, Bool, List, [], ◌∷◌, ◌++◌, Some, length, take, Contains, slice_get}
use Rattle.std.specs.List.{AllZip}
use Rattle.esto_term.specs.declared.term.Term.{Term}
use Rattle.esto_semantics.specs.Rules.{Rule, body_of}
use Rattle.esto_term.specs.Sets.{Has}
use Rattle.esto_semantics.specs.declared.fact.Fact.{Fact}
use Rattle.esto_semantics.specs.declared.expanded.ExpandedFact.{ExpandedFact}
use Rattle.esto_chase_laws.specs.Worlds.{InWorld}
use Rattle.esto_chase_laws.specs.WorldMatches.{match_map, IsMatch}
use Rattle.esto_chase_laws.specs.WorldSteps.{IsAsked, IsCovered}
use Rattle.esto_chase_laws.specs.declared.entry.Claim.{Claim}
use Rattle.esto_chase_laws.specs.declared.entry.Claim.TheVariants.{Fact as Stated, Same}
use Rattle.esto_chase_laws.specs.declared.entry.Reason.{Reason}
use Rattle.esto_chase_laws.specs.declared.entry.Reason.TheVariants.{Expanded, Step, Equal}
use Rattle.esto_chase_laws.specs.declared.entry.Entry.{Entry}

-- The entry at the place makes the claim.
abbrev pub Claims : List Entry → ℕ → Claim → Type 0
Claims entries place claim = (entry : Entry) × (slice_get entries place ≡ Some entry) × (entry.claim ≡ claim)

-- The entry at one of the places makes the claim.
abbrev pub IsNamed : List Entry → List ℕ → Claim → Type 0
IsNamed entries places claim = (place : ℕ) × Contains places place × Claims entries place claim

-- The product is the union of those of the entries at the places, all of which are there.
pub record IsUnion (entries : List Entry) (places : List ℕ) (product : List Bool) : Type 0 where
  pub there : (place : ℕ) → Contains places place → place < length entries
  pub exact : (number : ℕ) → Has product number
      ↔ ((place : ℕ) × (entry : Entry) × Contains places place × (slice_get entries place ≡ Some entry) × Has entry.product number)

-- The entries at the places are a chain of equalities from the one term to the other.
abbrev pub IsChain : List Entry → List ℕ → Term → Term → Type 0
IsChain entries [] term other = term ≡ other
IsChain entries (place ∷ places) term other =
    (next : Term) × (Claims entries place (Same term next) ⊎ Claims entries place (Same next term)) × IsChain entries places next other

-- The entry at the place says that two terms are one.
abbrev pub IsEquality : List Entry → ℕ → Type 0
IsEquality entries place = (left : Term) × (right : Term) × Claims entries place (Same left right)

-- The claim follows by the rule from the entries at the places: first one fact for each atom of the body, in order, and then equalities. The facts match the
-- body where terms that these equalities link count as one, and the rule asks for the claim at this match.
pub record FollowsBy (entries : List Entry) (number : ℕ) (rule : Rule) (places : List ℕ) (claim : Claim) : Type 0 where
  pub facts : List ℕ
  pub links : List ℕ
  pub in_order : places ≡ facts ++ links
  pub chosen : List (Fact Term)
  pub stated : AllZip (λ (place : ℕ) (fact : Fact Term). Claims entries place (Stated fact)) facts chosen
  pub equalities : (place : ℕ) → Contains links place → IsEquality entries place
  pub matches : IsMatch (IsNamed entries places) (body_of rule) chosen
  pub asked : IsAsked number rule (match_map (body_of rule) chosen) claim

-- The claim follows by the reason from the entries, and the product is what the reason rests on: it is an expanded fact, with its one atom; or it follows by a
-- rule; or it says that the ends of a chain of equalities are one.
abbrev pub Follows : List ExpandedFact → List Rule → List Entry → Claim → List Bool → Reason → Type 0
Follows expanded rules entries claim product (Expanded atom place) =
    (fact : ExpandedFact) × Contains expanded fact × (fact.atom ≡ atom) × (fact.place ≡ place) × (claim ≡ Stated fact.fact)
    × ((number : ℕ) → Has product number ↔ (number ≡ atom))
Follows expanded rules entries claim product (Step number places) =
    (rule : Rule) × (slice_get rules number ≡ Some rule) × FollowsBy entries number rule places claim × IsUnion entries places product
Follows expanded rules entries claim product (Equal places) =
    (places ≢ []) × (term : Term) × (other : Term) × (claim ≡ Same term other) × IsChain entries places term other × IsUnion entries places product

-- Each entry follows from those before it.
abbrev pub AreDerived : List ExpandedFact → List Rule → List Entry → Type 0
AreDerived expanded rules entries =
    (place : ℕ) (entry : Entry) → slice_get entries place ≡ Some entry
    → Follows expanded rules (take place entries) entry.claim entry.product entry.reason

-- No entry is covered by those before it.
abbrev pub AreNew : List Entry → Type 0
AreNew entries =
    (place : ℕ) (entry : Entry) → slice_get entries place ≡ Some entry → ¬ (IsCovered (InWorld (take place entries) entry.product) entry.claim)
