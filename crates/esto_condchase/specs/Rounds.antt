-- What a round adds.
use Rattle.std.specs.Prelude.{◌≡◌, ◌⊎◌, ◌↔◌, ◌<◌, ℕ, Bool, List, [], ◌∷◌, ◌++◌, Contains, Some, slice_get}
use Rattle.esto_term.specs.declared.term.Term.{Term}
use Rattle.esto_semantics.specs.Rules.{Rule, tuple, equality, denial, body_of}
use Rattle.esto_semantics.specs.declared.fact.Fact.{Fact}
use Rattle.esto_term.specs.Sets.{Has, Within, Covers}
use Rattle.esto_semantics.specs.declared.expanded.ExpandedFact.{ExpandedFact}
use Rattle.esto_chase_laws.specs.Worlds.{InWorld, SaysOne}
use Rattle.esto_semantics.specs.Facts.{terms_of}
use Rattle.esto_chase_laws.specs.WorldMatches.{taken, match_map, Touching, IsDirectMatch}
use Rattle.esto_chase_laws.specs.WorldSteps.{IsAsked, IsCovered}
use Rattle.esto_chase_laws.specs.declared.entry.Claim.{Claim}
use Rattle.esto_chase_laws.specs.declared.entry.Claim.TheVariants.{Fact as Stated}
use Rattle.esto_chase_laws.specs.declared.entry.Reason.{Reason}
use Rattle.esto_chase_laws.specs.declared.entry.Reason.TheVariants.{Expanded}
use Rattle.esto_chase_laws.specs.declared.entry.Entry.{Entry}
use Rattle.esto_known.specs.Indexes.{CoversClaim}
use Rattle.esto_known.specs.declared.group.Group.{Group}
use Rattle.esto_known.specs.declared.way.Way.{Way}
use Rattle.esto_known.specs.Live.{AreOld}
use Rattle.esto_known.specs.Added.{IsThere, IsFollowing}

-- What is asked for is asked for by one entry more, or by none, and then the claim was covered.
abbrev pub IsNoted : List Entry → List Entry → Claim → List Bool → Reason → List Entry → Type 0
IsNoted entries asked claim product reason later =
    (IsCovered (InWorld entries product) claim × (later ≡ asked))
    ⊎ (later ≡ asked ++ (record { claim = claim; product = product; reason = reason }) ∷ [])

-- What was asked for stays; and all that is asked for more follows from the entries.
pub record AsksMore (rules : List Rule) (count : ℕ) (entries asked later : List Entry) : Type 0 where
  pub kept : (entry : Entry) → Contains asked entry → Contains later entry
  pub new : (entry : Entry) → Contains later entry → Contains asked entry ⊎ IsFollowing rules count entries entry

-- The entry is that of the expanded fact: it states the fact, its product is the fact's atom alone, and its reason names the atom and the fact's place.
pub record IsEntryOf (fact : ExpandedFact) (entry : Entry) : Type 0 where
  pub states : entry.claim ≡ Stated fact.fact
  pub only : (number : ℕ) → Has entry.product number ↔ (number ≡ fact.atom)
  pub expanded : entry.reason ≡ Expanded fact.atom fact.place

-- The terms that tell what the rule asks for at a match: those of the head, or the two sides.
abbrev pub terms_asked : Rule → List Term
terms_asked (tuple body head) = terms_of head
terms_asked (equality body left right) = left ∷ right ∷ []
terms_asked (denial body) = []

-- The two sides of an equality rule. No other rule has sides.
abbrev pub sides_asked : Rule → List Term
sides_asked (tuple body head) = []
sides_asked (equality body left right) = left ∷ right ∷ []
sides_asked (denial body) = []

-- The claims that the rule asks for at the way are there.
abbrev pub IsAnswered : List Entry → ℕ → Rule → Way → Type 0
IsAnswered entries number rule way =
    (claim : Claim) → IsAsked number rule (taken (terms_of (body_of rule)) way.to) claim → IsThere entries claim way.product

-- In each world, what the rule asks for at a direct match among the old entries is covered by the new ones.
abbrev pub IsRuleAnswered : List Entry → List Entry → ℕ → Rule → Type 0
IsRuleAnswered old new number rule =
    (atoms : List Bool) (chosen : List (Fact Term)) → IsDirectMatch (InWorld old atoms) (body_of rule) chosen
    → (claim : Claim) → IsAsked number rule (match_map (body_of rule) chosen) claim → IsCovered (InWorld new atoms) claim

-- ---- links

-- In each world that the sets cover, the terms are one.
abbrev pub TellOne : List Entry → List (List Bool) → Term → Term → Type 0
TellOne entries sets term other = (set : List Bool) → Covers sets set → Touching (InWorld entries set) term other

-- The places that are open are some of these, all but those of entries whose products the sets cover.
pub record AreOpen (entries : List Entry) (sets : List (List Bool)) (places open_places : List ℕ) : Type 0 where
  pub of_given : (place : ℕ) → Contains open_places place → Contains places place
  pub others : (place : ℕ) (entry : Entry) → Contains places place → slice_get entries place ≡ Some entry
      → Contains open_places place ⊎ Covers sets entry.product

-- The claims are equalities that link the terms one after the other.
abbrev pub MeetBy : Claim → Claim → Term → Term → Type 0
MeetBy claim other from to = (via : Term) × SaysOne claim from via × SaysOne other via to

-- The entries at the places link the terms one after the other.
abbrev pub MeetAt : List Entry → ℕ → ℕ → Term → Term → Type 0
MeetAt entries first second from to =
    (one two : Entry) → slice_get entries first ≡ Some one → slice_get entries second ≡ Some two → MeetBy one.claim two.claim from to

-- The terms are one in each world that has the products of the entries at both places, unless both are among the first few.
abbrev pub IsUnionMet : List Entry → ℕ → List Entry → ℕ → ℕ → Term → Term → Type 0
IsUnionMet entries since new first second from to =
    (one two : Entry) → slice_get entries first ≡ Some one → slice_get entries second ≡ Some two
    → ((first < since) × (second < since)) ⊎ ((set : List Bool) → Within one.product set → Within two.product set → Touching (InWorld new set) from to)

-- The terms are one in each world of the entries that has both claims.
abbrev pub IsEndMet : List Entry → List Entry → Claim → Claim → Term → Term → Type 0
IsEndMet entries new claim other from to =
    (set : List Bool) → CoversClaim entries claim set → CoversClaim entries other set → Touching (InWorld new set) from to

-- The group at the place comes before the one of that number, and has something new.
abbrev pub IsLeft : ℕ → ℕ → ℕ → Group → Type 0
IsLeft since number place other = (place < number) × (AreOld since other.places → ⊥)

-- The first term is one with what the group links to the second, in each world of the entries that has both claims, unless the group is left.
abbrev pub IsSideMet : List Entry → ℕ → List Entry → ℕ → Claim → ℕ → Group → Term → Term → Type 0
IsSideMet entries since new number claim place other from via =
    IsLeft since number place other ⊎ ((to : Term) → SaysOne other.claim via to → IsEndMet entries new claim other.claim from to)

-- What the claim and that of each group link one after the other is one in each world of the entries that has both, unless the group is left.
abbrev pub IsMetWithAll : List Entry → List Group → ℕ → List Entry → ℕ → Claim → Type 0
IsMetWithAll entries groups since new number claim =
    (place : ℕ) (other : Group) → slice_get groups place ≡ Some other → (from to : Term) → MeetBy claim other.claim from to
    → IsLeft since number place other ⊎ IsEndMet entries new claim other.claim from to
