-- The printed plan: it is one, what cored plans keep of a plan it keeps too, and its head is as long as the query's.
use Rattle.std.proofs.Common.{◌≡◌, ◌≢◌, Bool, true, false, IsTrue, List, [], ◌∷◌, length, sym, ap, subst, ◌∙◌}
use Rattle.std.proofs.lemmas.Bool.{false≢true}
use Rattle.std.specs.Prelude.{AllPairs}
use Rattle.esto_term.proofs.ListLemmas.{Contains-head, Contains-one, one_length}
use Rattle.esto_semantics.specs.Containment.{IsSatisfiable}
use Rattle.esto_semantics.specs.Instances.{MapsTo}
use Rattle.esto_semantics.specs.Queries.{ConjunctiveQuery}
use Rattle.esto_semantics.specs.Rules.{Rule}
use Rattle.esto_semantics.specs.Unions.{ReceivesUnions}
use Rattle.esto_semantics.specs.CoreLaws.{CoreIsDistinct}
use Rattle.esto_semantics.specs.Cores.{AreLeft, HasNoRetract}
use Rattle.esto_views.specs.Plans.{plan_query}
use Rattle.esto_views.specs.declared.plan.Plan.{Plan}
use Rattle.esto_universal.specs.PlannedLaws.{PlanOfRunIsOne}
use Rattle.esto_views.specs.Renamed.{IsRenamedPlan}
use Rattle.esto_core.specs.Cored.{IsCoredPlan}
use Rattle.esto_core.specs.CoredLaws.{CoredIsCore, CoredHasNoRetract, CoredIsOne}
use Rattle.esto_rewriting.specs.Printed.{IsPrintedOf}
use Rattle.esto_rewriting.specs.PrintedLaws.{PrintedPlanIsOne}

-- what holds of a plan, and of the cored plan of each plan of which it holds, holds of what is printed of it
pub printed-keeps : (P : Plan → Type 0) (core : Bool) (plan printed : Plan) → ((cored : Plan) → IsCoredPlan plan cored → P plan → P cored)
    → IsPrintedOf core plan printed → P plan → P printed
printed-keeps P false plan printed keeps is holds = subst P (sym is) holds
printed-keeps P true plan printed keeps is_cored holds = keeps printed is_cored holds

-- where the core is asked for, what is printed retracts into no part of itself
pub printed-no_retract : CoredHasNoRetract → (core : Bool) (plan printed : Plan) → IsTrue core → IsPrintedOf core plan printed
    → HasNoRetract (plan_query printed)
printed-no_retract none false plan printed asked is = absurd (false≢true asked)
printed-no_retract none true plan printed asked is_cored = none plan printed is_cored

-- the atoms of a core are distinct
pub cored-distinct : CoredIsCore → CoreIsDistinct → (plan cored : Plan) → IsCoredPlan plan cored → AllPairs ◌≢◌ (plan_query cored).body
cored-distinct is_core distinct plan cored is_cored = distinct (plan_query cored) (is_core plan cored is_cored)

-- the cored plan of a plan is one of each plan with the same atoms, head and names
cored-moved : (plan other cored : Plan) → plan_query plan ≡ plan_query other → plan.names ≡ other.names → IsCoredPlan plan cored → IsCoredPlan other cored
cored-moved plan other cored same names is = record {
  left = is.left;
  are_left = subst (λ (it : ConjunctiveQuery). AreLeft it.head [] it.body is.left) same is.are_left;
  renamed = subst (λ it. IsRenamedPlan it is.left other.head cored) names
      (subst (λ (it : ConjunctiveQuery). IsRenamedPlan plan.names is.left it.head cored) same is.renamed);
}

-- what is printed of plans with the same atoms, head and names has the same atoms, head and names
printed-one : CoredIsOne → (core : Bool) (plan other printed again : Plan) → plan_query plan ≡ plan_query other → plan.names ≡ other.names
    → IsPrintedOf core plan printed → IsPrintedOf core other again → (plan_query printed ≡ plan_query again) × (printed.names ≡ again.names)
printed-one one false plan other printed again same names is is_again = (
  ap plan_query is ∙ same ∙ sym (ap plan_query is_again),
  ap (λ (it : Plan). it.names) is ∙ names ∙ sym (ap (λ (it : Plan). it.names) is_again),
)
printed-one one true plan other printed again same names is is_again = one other printed again (cored-moved plan other printed same names is) is_again

pub printed_plan-one : PlanOfRunIsOne → CoredIsOne → PrintedPlanIsOne
printed_plan-one one cored_one core rules views names query plan other are_rules printed again =
    let same = one rules views names query printed.stated again.stated are_rules printed.of_run again.of_run in
    printed-one cored_one core printed.stated again.stated plan other same.0 same.1 printed.printed again.printed

-- ---- the head

-- the head of a plan that receives unions for a satisfiable query is as long as the query's, since the plan answers what the query answers
pub same_length-received : (rules : List Rule) (views : List ConjunctiveQuery) (query plan : ConjunctiveQuery) → MapsTo plan plan
    → ReceivesUnions rules views query plan → IsSatisfiable rules query → length plan.head ≡ length query.head
same_length-received rules views query plan own receives (database, meets, (row, answer)) =
    let contained = (receives (plan ∷ [])).1 (plan, Contains-head plan [], own) in
    let (other, inside, found) = contained database meets row answer in
    ap (λ (it : ConjunctiveQuery). length it.head) (Contains-one plan other inside)
    ∙ one_length found.0 answer.0 other.head query.head row found.3 answer.3
