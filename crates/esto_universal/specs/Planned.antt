-- The plan of a query's run.
use Rattle.std.specs.Prelude.{List}
use Rattle.esto_semantics.specs.Instances.{IsFinished}
use Rattle.esto_semantics.specs.Queries.{ConjunctiveQuery}
use Rattle.esto_semantics.specs.Rules.{Rule}
use Rattle.esto_query.specs.declared.query.Name.{Name}
use Rattle.esto_views.specs.declared.plan.Plan.{Plan}
use Rattle.esto_chase_laws.specs.Runs.{Step, IsRun, start_of}
use Rattle.esto_universal.specs.Stated.{IsStatedPlan}

-- The plan is that of the query's run: the run has finished, and the plan is the one that is stated for its last facts and head.
pub record IsPlanOfRun (rules : List Rule) (views : List ConjunctiveQuery) (names : List Name) (query : ConjunctiveQuery) (plan : Plan) : Type 0 where
  pub trace : List Step
  pub end : ConjunctiveQuery
  pub run : IsRun rules (start_of query) trace end
  pub finished : IsFinished rules end
  pub stated : IsStatedPlan names views end plan
