-- Derivations written out as trees.
use Rattle.std.specs.Prelude.{◌≡◌, ◌≢◌, ◌⊎◌, ℕ, List, [], ◌∷◌, ◌++◌, Some, length, map, slice_get, Contains}
use Rattle.std.specs.List.{flat_map}
use Rattle.esto_term.specs.declared.term.Term.{Term}
use Rattle.esto_semantics.specs.Rules.{Rule, body_of}
use Rattle.esto_semantics.specs.declared.fact.Fact.{Fact}
use Rattle.esto_semantics.specs.declared.expanded.ExpandedFact.{ExpandedFact}
use Rattle.esto_chase_laws.specs.Derived.{AreDerived}
use Rattle.esto_chase_laws.specs.WorldMatches.{match_map, IsMatch}
use Rattle.esto_chase_laws.specs.WorldSteps.{IsAsked}
use Rattle.esto_chase_laws.specs.declared.entry.Claim.{Claim}
use Rattle.esto_chase_laws.specs.declared.entry.Claim.TheVariants as claim
use Rattle.esto_chase_laws.specs.declared.entry.Entry.{Entry}
use Rattle.esto_chase_laws.specs.declared.entry.Reason.{Reason}
use Rattle.esto_chase_laws.specs.declared.entry.Reason.TheVariants as reason
use Rattle.esto_prov.specs.declared.why.Why.{Why}
use Rattle.esto_prov.specs.declared.why.Why.TheFolds.{fold-Why}
use Rattle.esto_prov.specs.declared.why.Why.TheOpen.{Why-F}
use Rattle.esto_prov.specs.declared.why.Why.TheVariants.{Expanded, Step, Same}

-- The entry at the place has the reason.
abbrev pub HasReason : List Entry → ℕ → Reason → Type 0
HasReason entries at its = (entry : Entry) × (slice_get entries at ≡ Some entry) × (entry.reason ≡ its)

-- The tree is the derivation of the entry at the place: its reason, where each entry that the reason names stands, in order, with its own derivation.
pub data IsWhy (entries : List Entry) : ℕ → Why → Type 0 where
  expanded : (at atom place : ℕ) → HasReason entries at (reason.Expanded atom place) → IsWhy entries at (Expanded atom place)
  step : (at number : ℕ) (places : List ℕ) (whys : List Why) → HasReason entries at (reason.Step number places) → length whys ≡ length places
      → ((part place : ℕ) (why : Why) → slice_get places part ≡ Some place → slice_get whys part ≡ Some why → IsWhy entries place why)
      → IsWhy entries at (Step number whys)
  same : (at : ℕ) (places : List ℕ) (whys : List Why) → HasReason entries at (reason.Equal places) → length whys ≡ length places
      → ((part place : ℕ) (why : Why) → slice_get places part ≡ Some place → slice_get whys part ≡ Some why → IsWhy entries place why)
      → IsWhy entries at (Same whys)

-- The trees are the derivations of the entries at the places, in order.
pub record AreWhys (entries : List Entry) (places : List ℕ) (whys : List Why) : Type 0 where
  pub as_many : length whys ≡ length places
  pub each : (part place : ℕ) (why : Why) → slice_get places part ≡ Some place → slice_get whys part ≡ Some why → IsWhy entries place why

-- The leaves of one level of a derivation, from those of its parts.
abbrev pub leaves_of_level : Why-F (List ℕ) → List ℕ
leaves_of_level (Why-F.Expanded atom place) = atom ∷ []
leaves_of_level (Why-F.Step number parts) = flat_map (λ part. part) parts
leaves_of_level (Why-F.Same parts) = flat_map (λ part. part) parts

-- The leaves of a derivation: the atom of an expanded fact, and all leaves of the parts of a step or of a chain.
abbrev pub leaves_of : Why → List ℕ
leaves_of = fold-Why (List ℕ) leaves_of_level

-- The claim follows by the rule of that number from claims: first one fact for each atom of the body, in order, and then equalities. The facts match the body
-- where terms that these equalities link count as one, and the rule asks for the claim at this match.
pub record FollowsFrom (number : ℕ) (rule : Rule) (claims : List Claim) (its : Claim) : Type 0 where
  pub chosen : List (Fact Term)
  pub links : List Claim
  pub in_order : claims ≡ map claim.Fact chosen ++ links
  pub equalities : (link : Claim) → Contains links link → (left : Term) × (right : Term) × (link ≡ claim.Same left right)
  pub matches : IsMatch (Contains claims) (body_of rule) chosen
  pub asked : IsAsked number rule (match_map (body_of rule) chosen) its

-- The claims are a chain of equalities from the one term to the other.
abbrev pub AreChain : List Claim → Term → Term → Type 0
AreChain [] term other = term ≡ other
AreChain (first ∷ claims) term other =
    (next : Term) × ((first ≡ claim.Same term next) ⊎ (first ≡ claim.Same next term)) × AreChain claims next other

-- The tree derives the claim from expanded facts by rules: it is such a fact, it follows by a rule from what the parts derive, or it says that the ends of a
-- chain of equalities are one, each of which a part derives. No entry is named.
pub data Derives (expanded : List ExpandedFact) (rules : List Rule) : Why → Claim → Type 0 where
  given : (fact : ExpandedFact) → Contains expanded fact → Derives expanded rules (Expanded fact.atom fact.place) (claim.Fact fact.fact)
  by_rule : (number : ℕ) (rule : Rule) (whys : List Why) (claims : List Claim) (its : Claim) → slice_get rules number ≡ Some rule
      → length claims ≡ length whys
      → ((part : ℕ) (why : Why) (part_claim : Claim) → slice_get whys part ≡ Some why → slice_get claims part ≡ Some part_claim
      → Derives expanded rules why part_claim)
      → FollowsFrom number rule claims its → Derives expanded rules (Step number whys) its
  by_chain : (whys : List Why) (claims : List Claim) (term other : Term) → claims ≢ [] → length claims ≡ length whys
      → ((part : ℕ) (why : Why) (part_claim : Claim) → slice_get whys part ≡ Some why → slice_get claims part ≡ Some part_claim
      → Derives expanded rules why part_claim)
      → AreChain claims term other → Derives expanded rules (Same whys) (claim.Same term other)

-- The derivation of a derived entry derives its claim.
abbrev pub DerivationsDerive : Type 0
DerivationsDerive =
    (expanded : List ExpandedFact) (rules : List Rule) (entries : List Entry) → AreDerived expanded rules entries
    → (at : ℕ) (why : Why) (entry : Entry) → IsWhy entries at why → slice_get entries at ≡ Some entry → Derives expanded rules why entry.claim
