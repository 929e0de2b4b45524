-- Least active matches of rules, and the first rule that facts do not meet.
use Rattle.std.specs.Prelude.{◌≡◌, ℕ, List, Some, take, slice_get}
use Rattle.std.specs.FinMap.{empty}
use Rattle.esto_term.specs.declared.term.Term.{Term}
use Rattle.esto_term.specs.declared.term.Term.TheVariants.{Const}
use Rattle.esto_semantics.specs.Maps.{Keeps}
use Rattle.esto_semantics.specs.Matches.{IsMatch, IsAtMost, IsActive}
use Rattle.esto_semantics.specs.Rules.{Rule, body_of, AreMet}
use Rattle.esto_semantics.specs.declared.fact.Fact.{Fact}
pub use Rattle.esto_query.specs.Active.{Holds}
use Rattle.esto_semantics.specs.Valuations.{Assignment, Extends, map_of}
use Rattle.esto_query.specs.Matches.{IsFound}

-- The valuation and the places are those of a match of the rule's body under which the rule does not hold, and no such match comes before it.
pub record IsLeastActive (rule : Rule) (facts : List (Fact Term)) (valuation : Assignment) (places : List ℕ) : Type 0 where
  pub is_found : IsFound (body_of rule) facts empty valuation places
  pub active : (m : Term → Term) → Keeps Const m → Extends m valuation → ¬ (Holds facts rule m)
  pub least : (m : Term → Term) (others : List ℕ) → Keeps Const m → IsMatch m (body_of rule) facts others → ¬ (Holds facts rule m) → IsAtMost places others

-- The map of a least active match's valuation is an active match at its places, and no active match comes before it.
abbrev pub LeastActiveIsLeast : Type 0
LeastActiveIsLeast =
    (rule : Rule) (facts : List (Fact Term)) (valuation : Assignment) (places : List ℕ) → IsLeastActive rule facts valuation places
    → IsActive rule facts (map_of valuation) places
    × ((other : Term → Term) (others : List ℕ) → IsActive rule facts other others → IsAtMost places others)

-- The rule of this number has that least active match, and the facts meet each rule before it.
pub record IsFirstBroken (rules : List Rule) (facts : List (Fact Term)) (number : ℕ) (valuation : Assignment) (places : List ℕ) : Type 0 where
  pub rule : Rule
  pub there : slice_get rules number ≡ Some rule
  pub active : IsLeastActive rule facts valuation places
  pub before : AreMet facts (take number rules)
