-- The laws of the crates below on which the ends of steps rest.
use Rattle.std.specs.Prelude.{ℕ, ◌<◌, List, [], slice_index}
use Rattle.esto_constraint.specs.Graphs.{IsWithin, AreRanks}
use Rattle.esto_constraint.specs.Relations.{IsEdge}
use Rattle.esto_mapping.specs.Catalogues.{CataloguesAreSound}
use Rattle.esto_chase_laws.specs.ReceivedLaws.{ClashesReceiveNothing, FinishedRunsDecide, StatesAreUniversal, StatesAreUniversalForQueries}
use Rattle.esto_chase_laws.specs.RunLaws.{HeadsGoAlong, QueriesHaveStarts, RunsReachAnEnd, StartsHaveTheBody}
use Rattle.esto_constraint.specs.Constraints.{rule_of}
use Rattle.esto_constraint.specs.declared.rule.Constraint.{Constraint}
use Rattle.esto_input_laws.specs.CatalogueLaws.{CataloguesAreTotal}
use Rattle.esto_input_laws.specs.FileLaws.{StoredRowsAreTotal}
use Rattle.esto_run.specs.Readable.{OpenedAreReadable}
use Rattle.esto_semantics.specs.CoreLaws.{MapsCompose, RenamedIsReached, RenamedMapsBack}
use Rattle.esto_rewriting.specs.PlannedLaws.{PlanHasForm, PlanIsOver, PlanIsUniversal}
use Rattle.esto_query.specs.Soundness.{IsSound}
use Rattle.esto_query.specs.declared.query.Query.{Query}
use Rattle.esto_input_laws.specs.ReadingLaws.{ReadingsAreTotal, UnionReadingsAreTotal}
use Rattle.esto_semantics.specs.AccessLaws.{NumbersAreStated, ExecutableIsOwnPart, PartExists, PartIsOne, StatedOrderExists}
use Rattle.esto_semantics.specs.ContainmentLaws.{PartContains, PartIsEquivalent}
use Rattle.esto_semantics.specs.ExpansionLaws.{ExpansionAnswers, ExpansionExists, ExpansionIsContained, ExpansionIsContainedInUnion}
use Rattle.esto_semantics.specs.ListedLaws.{NoRewritingExists, PickExists, WeightExists}
use Rattle.esto_semantics.specs.PlanLaws.{ContainedCandidateIsEquivalent}
use Rattle.esto_semantics.specs.Instances.{IsUniversalFor}
use Rattle.esto_semantics.specs.Queries.{ConjunctiveQuery}
use Rattle.esto_semantics.specs.Rules.{Rule, IsRule}
use Rattle.esto_term.specs.SetLaws.{AllSetsAreListed, MinimalExist}
use Rattle.esto_universal.specs.PlannedLaws.{PlanOfRunIsUniversal, PlanOfRunReceivesUnions}
use Rattle.esto_views.specs.RenamedLaws.{RenamedPlanIsRenamed}
use Rattle.esto_views.specs.Fragments.{views_of}
use Rattle.esto_views.specs.Plans.{IsPlanOver, plan_query}
use Rattle.esto_views.specs.Soundness.{IsSoundPlan}
use Rattle.esto_views.specs.declared.fragments.FragmentDef.{FragmentDef}
use Rattle.esto_views.specs.declared.plan.Plan.{Plan}
use Rattle.esto_semantics.specs.Expansions.{FitsViews}

-- That whatever bytes have readings or first faults.
pub record ReadingLaws : Type 0 where
  pub sound : CataloguesAreSound
  pub catalogues : CataloguesAreTotal
  pub queries : ReadingsAreTotal
  pub unions : UnionReadingsAreTotal

-- What catalogues, rules, queries and plans keep.
pub record KeptLaws : Type 0 where
  pub catalogues : CataloguesAreSound
  pub rules : (constraint : Constraint) → IsRule (rule_of constraint)
  pub queries : (query : Query) → IsSound query.head query.body query.names
  pub plans : (plan : Plan) → IsSoundPlan plan.atoms plan.head plan.names
  pub fit : (plan : Plan) (fragments : List FragmentDef) → IsPlanOver plan fragments → FitsViews (views_of fragments) (plan_query plan)

-- Of the chase under rules whose ranks rise.
pub record ChaseLaws : Type 0 where
  pub rise : (rules : List Rule) (count : ℕ) (ranks : List ℕ) → IsWithin count (IsEdge rules) → AreRanks (IsEdge rules) count ranks
      → (from to : ℕ) → IsEdge rules from to → slice_index ranks from < slice_index ranks to
  pub small : (rules : List Rule) (count : ℕ) (ranks : List ℕ) → IsWithin count (IsEdge rules) → AreRanks (IsEdge rules) count ranks
      → (relation : ℕ) → relation < count → slice_index ranks relation < count
  pub body : StartsHaveTheBody
  pub starts : QueriesHaveStarts
  pub ends : RunsReachAnEnd
  pub heads : HeadsGoAlong
  pub universal : StatesAreUniversal
  pub nothing : ClashesReceiveNothing

-- Of lists of sets of a plan's atoms.
pub record ListLaws : Type 0 where
  pub form : PlanHasForm
  pub over : PlanIsOver
  pub universal : PlanIsUniversal
  pub answers : ExpansionAnswers
  pub contained : ExpansionIsContained
  pub contained_in_union : ExpansionIsContainedInUnion
  pub expansions : ExpansionExists
  pub equivalent : ContainedCandidateIsEquivalent
  pub part : PartExists
  pub part_is_one : PartIsOne
  pub own_part : ExecutableIsOwnPart
  pub sets : AllSetsAreListed
  pub minimal : MinimalExist
  pub orders : StatedOrderExists
  pub weights : WeightExists
  pub picks : PickExists

-- All of these, and that each file of a fragment has its rows.
pub record BelowLaws : Type 0 where
  pub keeps : KeptLaws
  pub chase : ChaseLaws
  pub lists : ListLaws
  pub rows : StoredRowsAreTotal
  pub readable : OpenedAreReadable

-- Of containment, and of parts of a query's chase.
pub record ReasoningLaws : Type 0 where
  pub decide : FinishedRunsDecide
  pub universal : StatesAreUniversalForQueries
  pub part_contains : PartContains
  pub part_is_equivalent : PartIsEquivalent
  pub compose : MapsCompose
  pub is_renamed : RenamedPlanIsRenamed
  pub reached : RenamedIsReached
  pub back : RenamedMapsBack

-- Of plans of runs, and of what needs no order, for the made case.
pub record BenchLaws : Type 0 where
  pub own : (query : ConjunctiveQuery) → IsUniversalFor [] query query
  pub receives : PlanOfRunReceivesUnions
  pub universal : PlanOfRunIsUniversal
  pub stated : NumbersAreStated
  pub none : NoRewritingExists
