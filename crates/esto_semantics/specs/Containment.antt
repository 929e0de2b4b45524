-- Containment, equivalence and satisfiability under rules. Source: containment under dependencies (Johnson and Klug 1984).
use Rattle.std.specs.Prelude.{List}
use Rattle.esto_semantics.specs.Facts.{Database}
use Rattle.esto_semantics.specs.Queries.{ConjunctiveQuery, IsAnswer}
use Rattle.esto_semantics.specs.Rules.{Rule, Meets}
use Rattle.esto_semantics.specs.declared.fact.Value.{Value}

-- Over every database that meets the rules, each answer of the left is one of the right. Either side may be the answers of a query over datasets or over
-- fragments.
abbrev pub IsContained : List Rule → (Database → List Value → Type 0) → (Database → List Value → Type 0) → Type 0
IsContained rules left right = (database : Database) → Meets rules database → (row : List Value) → left database row → right database row

-- Each is contained in the other.
abbrev pub IsEquivalent : List Rule → (Database → List Value → Type 0) → (Database → List Value → Type 0) → Type 0
IsEquivalent rules left right = IsContained rules left right × IsContained rules right left

-- Some database that meets the rules gives the query an answer.
abbrev pub IsSatisfiable : List Rule → ConjunctiveQuery → Type 0
IsSatisfiable rules query = (database : Database) × Meets rules database × ((row : List Value) × IsAnswer query database row)
