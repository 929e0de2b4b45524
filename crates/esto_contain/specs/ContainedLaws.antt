-- Laws of what is told of containment.
use Rattle.std.specs.Prelude.{◌≡◌, List}
use Rattle.esto_contain.specs.Contained.{IsCounterexample, TellsContained}
use Rattle.esto_contain.specs.declared.containing.Contain.{Contain}
use Rattle.esto_contain.specs.declared.containing.Contain.TheVariants.{No}
use Rattle.esto_semantics.specs.Queries.{ConjunctiveQuery, IsQuery}
use Rattle.esto_semantics.specs.Rules.{Rule, AreRules}
use Rattle.esto_semantics.specs.declared.fact.Fact.{Fact}
use Rattle.esto_term.specs.declared.term.Term.{Term}

-- One thing is told of two queries.
abbrev pub ToldIsOne : Type 0
ToldIsOne =
    (rules : List Rule) (left right : ConjunctiveQuery) (told other : Contain) → AreRules rules
    → TellsContained rules left right told → TellsContained rules left right other → told ≡ other

-- The facts and the row of a no show that the left query is not contained in the right one.
abbrev pub NoIsShown : Type 0
NoIsShown =
    (rules : List Rule) (left right : ConjunctiveQuery) (facts : List (Fact Term)) (row : List Term) → AreRules rules → IsQuery left
    → TellsContained rules left right (No facts row) → IsCounterexample rules left right facts row
