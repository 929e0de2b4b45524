-- The cored plan. Source: cores of relational structures (Hell and Nešetřil 1992), and of universal solutions (Fagin, Kolaitis and Popa 2005).
use Rattle.std.specs.Prelude.{◌≡◌, ◌≢◌, Bool, List, [], length}
use Rattle.esto_term.specs.declared.term.Term.{Term}
use Rattle.esto_semantics.specs.Listed.{chosen}
use Rattle.esto_semantics.specs.Maps.{AreFlat}
use Rattle.esto_semantics.specs.Plans.{IsUniversalPlan}
use Rattle.esto_semantics.specs.Queries.{ConjunctiveQuery}
use Rattle.esto_semantics.specs.Rules.{Rule}
use Rattle.esto_semantics.specs.declared.fact.Fact.{Fact}
use Rattle.esto_semantics.specs.Cores.{AreLeft, HasNoRetract, IsRenamedTo}
use Rattle.esto_query.specs.Soundness.{IsSafe}
use Rattle.esto_views.specs.Plans.{plan_query}
use Rattle.esto_views.specs.declared.plan.Plan.{Plan}
use Rattle.esto_views.specs.Renamed.{IsRenamedPlan}

-- The other plan is the cored plan: what is left of the plan's atoms, when they are gone through from the last to the first, with the plan's head, under new
-- names.
pub record IsCoredPlan (plan cored : Plan) : Type 0 where
  pub left : List (Fact Term)
  pub are_left : AreLeft plan.head [] (plan_query plan).body left
  pub renamed : IsRenamedPlan plan.names left plan.head cored

-- The other plan is that of some of the plan's atoms, in order, with the plan's head, under new names.
abbrev pub IsPart : Plan → Plan → Type 0
IsPart plan part =
    (set : List Bool) × (length set ≡ length plan.atoms) × IsRenamedPlan plan.names (chosen set (plan_query plan).body) plan.head part

-- The plan is the only core for the query: where it is safe and has an atom, each universal plan of the query, over constants and variables, that retracts into
-- no proper sublist of itself is the plan under a renaming, but for the order of its atoms.
abbrev pub IsOnlyCore : List Rule → List ConjunctiveQuery → ConjunctiveQuery → ConjunctiveQuery → Type 0
IsOnlyCore rules views query plan =
    IsSafe plan.head plan.body → plan.body ≢ []
    → (other : ConjunctiveQuery) → AreFlat other.body → IsUniversalPlan rules views query other → HasNoRetract other → IsRenamedTo plan other
