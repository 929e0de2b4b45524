-- Matches of a body in a list of facts, their order by the places of the facts, and the active ones of a rule.
use Rattle.std.specs.Prelude.{◌≡◌, ◌≢◌, ℕ, List, Some, slice_get, Contains}
use Rattle.std.specs.List.{AllZip}
use Rattle.std.specs.Ordering.{nat_cmp}
use Rattle.std.specs.Cmp.Lexicographic.{slice_cmp}
use Rattle.std.specs.declared.cmp.Ordering.TheVariants.{Less, Greater}
use Rattle.esto_term.specs.declared.term.Term.{Term}
use Rattle.esto_term.specs.declared.term.Term.TheVariants.{Const}
use Rattle.esto_semantics.specs.Facts.{image}
use Rattle.esto_semantics.specs.Maps.{Keeps}
use Rattle.esto_semantics.specs.Rules.{Rule, body_of, Concludes}
use Rattle.esto_semantics.specs.declared.fact.Fact.{Fact}

-- The map sends each atom to the fact at its place.
abbrev pub IsMatch : (Term → Term) → List (Fact Term) → List (Fact Term) → List ℕ → Type 0
IsMatch m body facts places = AllZip (λ atom place. slice_get facts place ≡ Some (image m atom)) body places

-- The one list of places comes before the other, place by place.
abbrev pub IsBefore : List ℕ → List ℕ → Type 0
IsBefore places others = slice_cmp nat_cmp places others ≡ Less

-- It comes before the other, or is the same.
abbrev pub IsAtMost : List ℕ → List ℕ → Type 0
IsAtMost places others = slice_cmp nat_cmp places others ≢ Greater

-- An active match: a match of the rule's body under which the rule's conclusion is not so.
pub record IsActive (rule : Rule) (facts : List (Fact Term)) (m : Term → Term) (places : List ℕ) : Type 0 where
  pub keeps : Keeps Const m
  pub matches : IsMatch m (body_of rule) facts places
  pub active : ¬ (Concludes Const ◌≡◌ (Contains facts) rule m)

-- The rule has a least active match in the facts.
abbrev pub HasLeast : Rule → List (Fact Term) → Type 0
HasLeast rule facts =
    (m : Term → Term) × (places : List ℕ) × IsActive rule facts m places
    × ((other : Term → Term) (others : List ℕ) → IsActive rule facts other others → IsAtMost places others)
