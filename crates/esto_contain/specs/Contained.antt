-- What is told of whether one query is contained in another, and what shows that it is not. Source: containment under dependencies (Johnson and Klug 1984).
use Rattle.std.specs.Prelude.{⊤, List, map}
use Rattle.esto_chase_laws.specs.Runs.{start_of}
use Rattle.esto_contain.specs.Ends.{FinishesAt}
use Rattle.esto_contain.specs.declared.containing.Contain.{Contain}
use Rattle.esto_contain.specs.declared.containing.Contain.TheVariants.{Yes, No}
use Rattle.esto_semantics.specs.Cores.{with_head}
use Rattle.esto_semantics.specs.Containment.{IsContained}
use Rattle.esto_semantics.specs.Expansions.{IsOfQuery}
use Rattle.esto_semantics.specs.Facts.{image}
use Rattle.esto_semantics.specs.Queries.{ConjunctiveQuery, IsAnswer}
use Rattle.esto_semantics.specs.Rules.{Rule, Meets}
use Rattle.esto_semantics.specs.Standing.{AreValuesOf}
use Rattle.esto_semantics.specs.declared.fact.Fact.{Fact}
use Rattle.esto_semantics.specs.declared.fact.Value.{Value}
use Rattle.esto_term.specs.declared.term.Term.{Term}

-- The facts and the row show that the left query is not contained in the right one. With an unnamed value of its own for each term that is no constant, the
-- facts are a database that meets the rules, over which the row is an answer of the left query and no answer of the right one.
pub record IsCounterexample (rules : List Rule) (left right : ConjunctiveQuery) (facts : List (Fact Term)) (row : List Term) : Type 0 where
  pub value : Term → Value
  pub values : AreValuesOf (IsOfQuery (with_head row facts)) value
  pub meets : Meets rules (map (image value) facts)
  pub answer : IsAnswer left (map (image value) facts) (map value row)
  pub no_answer : ¬ (IsAnswer right (map (image value) facts) (map value row))

-- What is told of two queries: yes where the left one is contained in the right one; else no, with the last facts of the left one's run, and the run's head.
abbrev pub TellsContained : List Rule → ConjunctiveQuery → ConjunctiveQuery → Contain → Type 0
TellsContained rules left right Yes = IsContained rules (IsAnswer left) (IsAnswer right)
TellsContained rules left right (No facts row) =
    ¬ (IsContained rules (IsAnswer left) (IsAnswer right)) × FinishesAt rules (start_of left) (with_head row facts)

-- This is so of the facts and the row of a no.
abbrev pub IfNo : (List (Fact Term) → List Term → Type 0) → Contain → Type 0
IfNo P Yes = ⊤
IfNo P (No facts row) = P facts row
