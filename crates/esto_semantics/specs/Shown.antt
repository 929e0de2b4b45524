-- What shows that a query is not contained in others: its instance, with values for its terms.
use Rattle.std.specs.Prelude.{List, map}
use Rattle.esto_term.specs.declared.term.Term.{Term}
use Rattle.esto_semantics.specs.Expansions.{IsOfQuery}
use Rattle.esto_semantics.specs.Facts.{image}
use Rattle.esto_semantics.specs.Instances.{MapsTo}
use Rattle.esto_semantics.specs.Queries.{ConjunctiveQuery, IsAnswer}
use Rattle.esto_semantics.specs.Rules.{Rule, Meets}
use Rattle.esto_semantics.specs.Standing.{AreValuesOf}
use Rattle.esto_semantics.specs.declared.fact.Value.{Value}

-- Under these values for its terms, the end's facts are a database that meets the rules, over which the end's head is a row of the start, and a row of
-- another query only where that maps to the end, head to head.
pub record Shows (rules : List Rule) (start end : ConjunctiveQuery) (value : Term → Value) : Type 0 where
  pub values : AreValuesOf (IsOfQuery end) value
  pub meets : Meets rules (map (image value) end.body)
  pub row : IsAnswer start (map (image value) end.body) (map value end.head)
  pub only : (right : ConjunctiveQuery) → IsAnswer right (map (image value) end.body) (map value end.head) → MapsTo right end
