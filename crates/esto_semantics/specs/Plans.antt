-- The universal property of a plan. Source: universal plans of the chase and backchase (Deutsch, Popa and Tannen 1999).
use Rattle.std.specs.Prelude.{◌≡◌, ◌↔◌, List, length}
use Rattle.esto_semantics.specs.Queries.{ConjunctiveQuery, IsQuery, IsAnswer}
use Rattle.esto_semantics.specs.Rules.{Rule}
use Rattle.esto_semantics.specs.Containment.{IsContained}
use Rattle.esto_semantics.specs.Views.{IsFragmentAnswer}
use Rattle.esto_semantics.specs.Instances.{MapsTo}

-- A plan, which is a list of fragment atoms with a head, is universal for the query when it receives every query over fragments that contains the query, and no
-- other: the query is contained in it exactly where it maps to the plan, head to head.
abbrev pub IsUniversalPlan : List Rule → List ConjunctiveQuery → ConjunctiveQuery → ConjunctiveQuery → Type 0
IsUniversalPlan rules views query plan =
    (other : ConjunctiveQuery) → IsQuery other → length other.head ≡ length query.head
    → IsContained rules (IsAnswer query) (IsFragmentAnswer views other) ↔ MapsTo other plan
