-- The plan that is stated for an end.
use Rattle.std.specs.Prelude.{List}
use Rattle.esto_term.specs.declared.term.Term.{Term}
use Rattle.esto_semantics.specs.Queries.{ConjunctiveQuery}
use Rattle.esto_semantics.specs.declared.fact.Fact.{Fact}
use Rattle.esto_query.specs.declared.query.Name.{Name}
use Rattle.esto_views.specs.declared.plan.Plan.{Plan}
use Rattle.esto_universal.specs.Rows.{AreRows}
use Rattle.esto_views.specs.Renamed.{IsRenamedPlan}

-- The plan is the one that is stated for an end: that of the rows of all views over the end's facts, in order, and of the end's head, under new names.
pub record IsStatedPlan (names : List Name) (views : List ConjunctiveQuery) (end : ConjunctiveQuery) (plan : Plan) : Type 0 where
  pub rows : List (Fact Term)
  pub are_rows : AreRows views end.body rows
  pub renamed : IsRenamedPlan names rows end.head plan
