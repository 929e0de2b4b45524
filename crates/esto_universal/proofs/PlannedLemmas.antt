-- The plan of a query's run: there is one, and it is universal, by the laws of runs and of stated plans.
use Rattle.std.proofs.Common.{◌≡◌, ◌≢◌, ℕ, inl, inr, List, [], ◌∷◌, map, length, sym, ◌∙◌, subst}
use Rattle.esto_term.specs.declared.term.Term.{Term}
use Rattle.esto_semantics.specs.Containment.{IsSatisfiable}
use Rattle.esto_semantics.specs.Instances.{IsFinished}
use Rattle.esto_semantics.specs.Plans.{IsUniversalPlan}
use Rattle.esto_semantics.specs.Queries.{ConjunctiveQuery, IsQuery}
use Rattle.esto_semantics.specs.Rules.{Rule, AreRules}
use Rattle.esto_semantics.specs.Unions.{ReceivesUnions}
use Rattle.esto_query.specs.declared.query.Name.{Name}
use Rattle.esto_constraint.specs.Graphs.{IsWithin, AreRanks}
use Rattle.esto_constraint.specs.Relations.{IsEdge}
use Rattle.esto_views.specs.Fragments.{views_of, AreFragments}
use Rattle.esto_views.specs.Plans.{plan_query, IsPlanOver}
use Rattle.esto_views.specs.declared.fragments.FragmentDef.{FragmentDef}
use Rattle.esto_views.specs.declared.plan.Plan.{Plan}
use Rattle.esto_chase_laws.specs.ReceivedLaws.{StatesAreUniversalForQueries, FinishedRunsSatisfy, StartsAreSatisfiableAlike}
use Rattle.esto_chase_laws.specs.RunLaws.{EndIsOne, ClashIsOne, ClashedIsNotFinished, QueriesHaveStarts, HeadsGoAlong}
use Rattle.esto_chase_laws.specs.Runs.{Step, IsRun, HasClashed, start_of, moved_by}
use Rattle.esto_chase_laws.specs.declared.clash.Clash.{Clash}
use Rattle.esto_chase.specs.Chased.{IsFinishedRun, RunClashes}
use Rattle.esto_instance.specs.Instances.{state_of, trace_of, steps_of}
use Rattle.esto_instance.specs.declared.instance.Instance.{Instance}
use Rattle.esto_universal.specs.Stated.{IsStatedPlan}
use Rattle.esto_universal.specs.StatedLaws.{StatedPlanIsOne, StatedPlanReceivesUnions, StatedPlanIsUniversal}
use Rattle.esto_universal.specs.Planned.{IsPlanOfRun}
use Rattle.esto_universal.proofs.PlanLemmas.{plan_over}

-- ---- there is one outcome

module _ (ends_are_one : EndIsOne) (rules : List Rule) (query : ConjunctiveQuery) (are_rules : AreRules rules) where
  pub one_plan_of_run : StatedPlanIsOne → (views : List ConjunctiveQuery) (names : List Name) (plan other : Plan)
      → IsPlanOfRun rules views names query plan → IsPlanOfRun rules views names query other
      → (plan_query plan ≡ plan_query other) × (plan.names ≡ other.names)
  one_plan_of_run stated_is_one views names plan other planned again =
      let same : planned.end ≡ again.end =
      ends_are_one rules (start_of query) are_rules planned.trace again.trace planned.end again.end planned.run again.run
      (inl planned.finished) (inl again.finished) in
      stated_is_one names views again.end plan other (subst (λ end. IsStatedPlan names views end plan) same planned.stated) again.stated

  pub one_clash_of_run : ClashIsOne → (clash other : Clash) → RunClashes rules (start_of query) clash → RunClashes rules (start_of query) other → clash ≡ other
  one_clash_of_run clash_is_one clash other (trace, now, run, clashed) (others, other_now, other_run, other_clashed) =
      let same : now ≡ other_now =
      ends_are_one rules (start_of query) are_rules trace others now other_now run other_run (inr (clash, clashed)) (inr (other, other_clashed)) in
      clash_is_one rules are_rules now clash other clashed (subst (λ it. HasClashed rules it other) (sym same) other_clashed)

  pub plan_excludes_clash : ClashedIsNotFinished → (views : List ConjunctiveQuery) (names : List Name) (plan : Plan) (clash : Clash)
      → IsPlanOfRun rules views names query plan → ¬ (RunClashes rules (start_of query) clash)
  plan_excludes_clash not_finished views names plan clash planned (trace, now, run, clashed) =
      let same : planned.end ≡ now =
      ends_are_one rules (start_of query) are_rules planned.trace trace planned.end now planned.run run (inl planned.finished) (inr (clash, clashed)) in
      not_finished rules now clash clashed (subst (IsFinished rules) same planned.finished)

-- ---- which queries are satisfiable

module _ (alike : StartsAreSatisfiableAlike) (have_starts : QueriesHaveStarts) (rules : List Rule) (query : ConjunctiveQuery) (are_rules : AreRules rules)
    (is_query : IsQuery query) where
  pub planned_satisfiable : FinishedRunsSatisfy → (views : List ConjunctiveQuery) (names : List Name) (plan : Plan)
      → IsPlanOfRun rules views names query plan → IsSatisfiable rules query
  planned_satisfiable finished_satisfy views names plan planned =
      (alike rules query).1
      (finished_satisfy rules (start_of query) are_rules (have_starts query is_query) planned.trace planned.end planned.run planned.finished)

-- ---- the plan is universal

module _ (universal_states : StatesAreUniversalForQueries) (rules : List Rule) (views : List ConjunctiveQuery) (names : List Name) (query : ConjunctiveQuery)
    (plan : Plan) (are_rules : AreRules rules) (is_query : IsQuery query) (planned : IsPlanOfRun rules views names query plan) where
  pub planned_receives : StatedPlanReceivesUnions → ReceivesUnions rules views query (plan_query plan)
  planned_receives stated_receives =
      stated_receives rules names views query planned.end plan are_rules
      (universal_states rules query are_rules is_query planned.trace planned.end planned.run) planned.finished planned.stated

  pub planned_universal : StatedPlanIsUniversal → IsUniversalPlan rules views query (plan_query plan)
  planned_universal stated_universal =
      stated_universal rules names views query planned.end plan are_rules
      (universal_states rules query are_rules is_query planned.trace planned.end planned.run) planned.finished planned.stated

pub planned_over : (rules : List Rule) (fragments : List FragmentDef) (names : List Name) (query : ConjunctiveQuery) (plan : Plan) → AreFragments fragments
    → IsPlanOfRun rules (views_of fragments) names query plan → IsPlanOver plan fragments
planned_over rules fragments names query plan are_fragments planned = plan_over names fragments planned.end plan are_fragments planned.stated

-- ---- what the chase wants and gives

pub within_ranks : (rules : List Rule) (count : ℕ) (ranks : List ℕ) → IsWithin count (IsEdge rules) → AreRanks (IsEdge rules) count ranks
    → IsWithin (length ranks) (IsEdge rules)
within_ranks rules count ranks within are_ranks = subst (λ it. IsWithin it (IsEdge rules)) (sym are_ranks.for_each) within

pub ranks_of_all : (rules : List Rule) (count : ℕ) (ranks : List ℕ) → AreRanks (IsEdge rules) count ranks → AreRanks (IsEdge rules) (length ranks) ranks
ranks_of_all rules count ranks are_ranks = subst (λ it. AreRanks (IsEdge rules) it ranks) (sym are_ranks.for_each) are_ranks

-- a run's head is not empty where the start's is not
pub head_stays : HeadsGoAlong → (rules : List Rule) (query : ConjunctiveQuery) → AreRules rules → QueriesHaveStarts → IsQuery query
    → (trace : List Step) (now : ConjunctiveQuery) → IsRun rules (start_of query) trace now → now.head ≢ []
head_stays heads rules query are_rules have_starts is_query trace now run none =
    mapped (moved_by trace) query.head is_query.has_head (sym (heads rules (start_of query) are_rules (have_starts query is_query) trace now run) ∙ none)
  where
    mapped : (m : Term → Term) (head : List Term) → head ≢ [] → map m head ≢ []
    mapped m [] has_head is = has_head is
    mapped m (first ∷ rest) has_head is = absurd (cc)

pub head_of_end : HeadsGoAlong → QueriesHaveStarts → (rules : List Rule) (query start : ConjunctiveQuery) (instance : Instance) → AreRules rules → IsQuery query
    → start ≡ start_of query → IsFinishedRun rules start instance → (state_of instance).head ≢ []
head_of_end heads have_starts rules query start instance are_rules is_query same run =
    head_stays heads rules query are_rules have_starts is_query (steps_of (trace_of instance)) (state_of instance)
    (subst (λ it. IsRun rules it (steps_of (trace_of instance)) (state_of instance)) same run.run)

pub planned_from : (rules : List Rule) (views : List ConjunctiveQuery) (names : List Name) (query start : ConjunctiveQuery) (instance : Instance) (plan : Plan)
    → start ≡ start_of query → IsFinishedRun rules start instance → IsStatedPlan names views (state_of instance) plan → IsPlanOfRun rules views names query plan
planned_from rules views names query start instance plan same run stated = record {
  trace = steps_of (trace_of instance);
  end = state_of instance;
  run = subst (λ it. IsRun rules it (steps_of (trace_of instance)) (state_of instance)) same run.run;
  finished = run.finished;
  stated = stated;
}
