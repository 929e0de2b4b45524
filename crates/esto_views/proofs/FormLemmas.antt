-- The form of a plan that receives unions for a satisfiable query.
use Rattle.std.proofs.Common.{List, [], ◌∷◌, length, ap, ◌∙◌}
use Rattle.esto_semantics.specs.Containment.{IsSatisfiable}
use Rattle.esto_semantics.specs.Instances.{MapsTo}
use Rattle.esto_semantics.specs.Queries.{ConjunctiveQuery}
use Rattle.esto_semantics.specs.Rewritings.{IsPlanFor}
use Rattle.esto_semantics.specs.Rules.{Rule}
use Rattle.esto_semantics.specs.Unions.{ReceivesUnions}
use Rattle.esto_views.specs.Plans.{plan_query}
use Rattle.esto_views.specs.Soundness.{IsSoundPlan}
use Rattle.esto_views.specs.declared.plan.Plan.{Plan}
use Rattle.esto_views.proofs.FlatLemmas.{plan_atoms-flat}
use Rattle.esto_term.proofs.ListLemmas.{Contains-head, Contains-one, one_length}

-- its head is as long as that of the query, since it answers what the query answers
pub plan_form : ((query : ConjunctiveQuery) → MapsTo query query) → (rules : List Rule) (views : List ConjunctiveQuery) (query : ConjunctiveQuery) (plan : Plan)
    → IsSoundPlan plan.atoms plan.head plan.names → ReceivesUnions rules views query (plan_query plan) → IsSatisfiable rules query
    → IsPlanFor query (plan_query plan)
plan_form own rules views query plan sound receives (database, meets, (row, answer)) =
    let contained = (receives (plan_query plan ∷ [])).1 (plan_query plan, Contains-head (plan_query plan) [], own (plan_query plan)) in
    let (other, inside, found) = contained database meets row answer in
    record {
      same_length = ap (λ (it : ConjunctiveQuery). length it.head) (Contains-one (plan_query plan) other inside)
          ∙ one_length found.0 answer.0 other.head query.head row found.3 answer.3;
      has_head = sound.has_head;
      flat_body = plan_atoms-flat plan sound;
    }
