-- The match that is next, as it is found.
use Rattle.std.specs.Prelude.{◌≡◌, ℕ, ◌<◌, List, Some, slice_get}
use Rattle.std.specs.FinMap.{empty}
use Rattle.esto_term.specs.declared.term.Term.{Term}
use Rattle.esto_semantics.specs.Rules.{Rule, body_of, IsMet}
use Rattle.esto_semantics.specs.declared.fact.Fact.{Fact}
use Rattle.esto_query.specs.Matches.{IsFound}
use Rattle.esto_semantics.specs.Valuations.{Assignment, map_of}
use Rattle.esto_constraint.specs.Matches.{IsLeastActive}
use Rattle.esto_chase_laws.specs.Runs.{IsNext, kind_of}
use Rattle.esto_chase.specs.declared.next.Kind.{Kind}
use Rattle.esto_chase.specs.declared.next.Kind.TheVariants.{Equality, Denial, Tuple}

-- The number of a kind of rules, in the order in which they are tried.
abbrev pub number_of : Kind → ℕ
number_of Equality = 0
number_of Denial = 1
number_of Tuple = 2

-- The facts meet each rule of the kind with a lower number.
abbrev pub AreMetBelow : List Rule → List (Fact Term) → ℕ → ℕ → Type 0
AreMetBelow rules facts kind bound =
    (number : ℕ) (rule : Rule) → number < bound → slice_get rules number ≡ Some rule → kind_of rule ≡ kind → IsMet facts rule

-- The rule of this number is the first of the kind that the facts do not meet, and has that least active match.
pub record IsFirstOf (rules : List Rule) (facts : List (Fact Term)) (kind number : ℕ) (valuation : Assignment) (places : List ℕ) : Type 0 where
  pub rule : Rule
  pub there : slice_get rules number ≡ Some rule
  pub is_kind : kind_of rule ≡ kind
  pub active : IsLeastActive rule facts valuation places
  pub before : AreMetBelow rules facts kind number

-- The match of the rule of this number is the next, and its valuation has exactly the variables of the rule's body.
pub record IsNextFound (rules : List Rule) (facts : List (Fact Term)) (number : ℕ) (valuation : Assignment) (places : List ℕ) : Type 0 where
  pub rule : Rule
  pub is_next : IsNext rules facts number rule (map_of valuation) places
  pub is_found : IsFound (body_of rule) facts empty valuation places
