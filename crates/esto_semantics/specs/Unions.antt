-- Unions of queries: their answers, and when something is contained in one. Source: containment of unions (Sagiv and Yannakakis 1980).
use Rattle.std.specs.Prelude.{◌↔◌, List, Contains}
use Rattle.esto_semantics.specs.Containment.{IsContained}
use Rattle.esto_semantics.specs.Facts.{Database}
use Rattle.esto_semantics.specs.Instances.{MapsTo}
use Rattle.esto_semantics.specs.Queries.{ConjunctiveQuery, IsAnswer}
use Rattle.esto_semantics.specs.Rules.{Rule}
use Rattle.esto_semantics.specs.Views.{IsFragmentAnswer}
use Rattle.esto_semantics.specs.declared.fact.Value.{Value}

-- The row is an answer of the union: of one of its queries.
abbrev pub IsUnionAnswer : List ConjunctiveQuery → Database → List Value → Type 0
IsUnionAnswer queries database row = (query : ConjunctiveQuery) × Contains queries query × IsAnswer query database row

-- The row is an answer of the union of queries over fragments: of one of them.
abbrev pub IsUnionFragmentAnswer : List ConjunctiveQuery → List ConjunctiveQuery → Database → List Value → Type 0
IsUnionFragmentAnswer views queries database row = (query : ConjunctiveQuery) × Contains queries query × IsFragmentAnswer views query database row

-- One of the queries maps to the other, head to head.
abbrev pub OneMapsTo : List ConjunctiveQuery → ConjunctiveQuery → Type 0
OneMapsTo queries other = (query : ConjunctiveQuery) × Contains queries query × MapsTo query other

-- The plan receives unions for the query: the query is contained in a union of queries over fragments exactly where one of them maps to the plan, head to
-- head.
abbrev pub ReceivesUnions : List Rule → List ConjunctiveQuery → ConjunctiveQuery → ConjunctiveQuery → Type 0
ReceivesUnions rules views query plan =
    (others : List ConjunctiveQuery) → IsContained rules (IsAnswer query) (IsUnionFragmentAnswer views others) ↔ OneMapsTo others plan
