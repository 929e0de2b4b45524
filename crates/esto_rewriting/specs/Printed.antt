-- The plan that is printed.
use Rattle.std.specs.Prelude.{◌≡◌, Bool, true, false, List}
use Rattle.esto_semantics.specs.Queries.{ConjunctiveQuery}
use Rattle.esto_semantics.specs.Rules.{Rule}
use Rattle.esto_query.specs.declared.query.Name.{Name}
use Rattle.esto_views.specs.declared.plan.Plan.{Plan}
use Rattle.esto_universal.specs.Planned.{IsPlanOfRun}
use Rattle.esto_core.specs.Cored.{IsCoredPlan}

-- What is printed of a plan: its cored plan where the core is asked for, and else the plan itself.
abbrev pub IsPrintedOf : Bool → Plan → Plan → Type 0
IsPrintedOf false plan printed = printed ≡ plan
IsPrintedOf true plan printed = IsCoredPlan plan printed

-- The plan is the printed one: what is printed of the plan of the query's run.
pub record IsPrintedPlan (core : Bool) (rules : List Rule) (views : List ConjunctiveQuery) (names : List Name) (query : ConjunctiveQuery) (plan : Plan)
    : Type 0 where
  pub stated : Plan
  pub of_run : IsPlanOfRun rules views names query stated
  pub printed : IsPrintedOf core stated plan
