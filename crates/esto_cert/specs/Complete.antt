-- Which sets have a certificate that is accepted.
use Rattle.std.specs.Prelude.{◌<◌, ◌≤◌, ℕ, Bool, List, None}
use Rattle.esto_term.specs.Nesting.{greatest_u64}
use Rattle.esto_constraint.specs.Constraints.{rules_of}
use Rattle.esto_constraint.specs.declared.rule.Constraint.{Constraint}
use Rattle.esto_chase_laws.specs.Bounds.{RanksRise}
use Rattle.esto_query.specs.Making.{query_of}
use Rattle.esto_query.specs.declared.query.Query.{Query}
use Rattle.esto_semantics.specs.Facts.{Database}
use Rattle.esto_semantics.specs.Listed.{candidate}
use Rattle.esto_semantics.specs.Rules.{Rule, Meets}
use Rattle.esto_semantics.specs.Views.{IsFragmentAnswer}
use Rattle.esto_semantics.specs.declared.fact.Value.{Value}
use Rattle.esto_views.specs.Fragments.{views_of}
use Rattle.esto_views.specs.Plans.{IsPlanOver, plan_query}
use Rattle.esto_views.specs.declared.fragments.FragmentDef.{FragmentDef}
use Rattle.esto_views.specs.declared.plan.Plan.{Plan}
use Rattle.esto_views.specs.Contained.{IsSafelyContained}
use Rattle.esto_cert.specs.Judging.{DecidesFor}

-- Some database that meets the rules gives an answer.
abbrev pub HasAnswer : List Rule → (Database → List Value → Type 0) → Type 0
HasAnswer rules Answers = (database : Database) × Meets rules database × ((row : List Value) × Answers database row)

-- Some bytes are a certificate that is accepted for the set of the plan's atoms.
abbrev pub HasCertificate : Plan → List FragmentDef → List Bool → List Constraint → Query → Type 0
HasCertificate plan fragments set rules query = (bytes : List ℕ) × DecidesFor plan fragments set rules query bytes None

-- Under ranks that rise, each set of a plan's atoms that is safe, and whose candidate has an answer and is contained in the query, has a certificate that is
-- accepted, whether the set is listed or not.
abbrev pub ContainedSetsHaveCertificates : Type 0
ContainedSetsHaveCertificates =
    (plan : Plan) (fragments : List FragmentDef) (set : List Bool) (rules : List Constraint) (query : Query) (rank : ℕ → ℕ) (depth : ℕ)
    → IsPlanOver plan fragments → RanksRise (rules_of rules) rank → ((relation : ℕ) → rank relation ≤ depth) → depth < greatest_u64
    → HasAnswer (rules_of rules) (IsFragmentAnswer (views_of fragments) (candidate (plan_query plan) set))
    → IsSafelyContained (rules_of rules) (views_of fragments) (query_of query) (plan_query plan) set
    → HasCertificate plan fragments set rules query
