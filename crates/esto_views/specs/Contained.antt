-- Sets of a plan's atoms: onto which of them a query over fragments maps, and whose candidates are contained in a query.
use Rattle.std.specs.Prelude.{◌≡◌, Bool, List, length}
use Rattle.esto_semantics.specs.Containment.{IsContained}
use Rattle.esto_semantics.specs.Listed.{candidate, HasCandidate, IsSafe}
use Rattle.esto_semantics.specs.Queries.{ConjunctiveQuery, IsAnswer, IsQuery}
use Rattle.esto_semantics.specs.Rewritings.{MapsOnto}
use Rattle.esto_semantics.specs.Rules.{Rule, AreRules}
use Rattle.esto_semantics.specs.Views.{IsFragmentAnswer}
use Rattle.esto_views.specs.Expanded.{Expands}
use Rattle.esto_views.specs.Fragments.{views_of}
use Rattle.esto_views.specs.Plans.{plan_query}
use Rattle.esto_views.specs.Soundness.{IsSoundPlan}
use Rattle.esto_semantics.specs.declared.expanded.ExpandedFact.{ExpandedFact}
use Rattle.esto_views.specs.declared.fragments.FragmentDef.{FragmentDef}
use Rattle.esto_views.specs.declared.plan.Plan.{Plan}
use Rattle.esto_chase_laws.specs.Derived.{AreDerived}
use Rattle.esto_chase_laws.specs.WorldLaws.{HasMatch, IsSound}
use Rattle.esto_chase_laws.specs.Worlds.{InWorld}
use Rattle.esto_chase_laws.specs.declared.entry.Entry.{Entry}
use Rattle.esto_term.specs.Sets.{Covers}

-- The query over fragments maps onto a set of the plan's atoms that has one of these sets within it.
abbrev pub MapsOntoOne : ConjunctiveQuery → ConjunctiveQuery → List (List Bool) → Type 0
MapsOntoOne other plan sets = (set : List Bool) × MapsOnto other plan set × Covers sets set

-- The set has a candidate, which is safe and contained in the query under the rules.
pub record IsSafelyContained (rules : List Rule) (views : List ConjunctiveQuery) (query plan : ConjunctiveQuery) (set : List Bool) : Type 0 where
  pub has_candidate : HasCandidate plan set
  pub safe : IsSafe plan set
  pub contained : IsContained rules (IsFragmentAnswer views (candidate plan set)) (IsAnswer query)

-- Let entries be derived from a plan's expansion. A set of the plan's atoms whose sound world has a match of a query, with its head one with the plan's, has
-- such a candidate.
abbrev pub MatchedSetsAreContained : Type 0
MatchedSetsAreContained =
    (rules : List Rule) (fragments : List FragmentDef) (plan : Plan) (expanded : List ExpandedFact) (entries : List Entry) (set : List Bool)
    (query : ConjunctiveQuery) → AreRules rules → IsSoundPlan plan.atoms plan.head plan.names → Expands plan fragments expanded
    → AreDerived expanded rules entries → IsSound expanded rules entries set → length set ≡ length plan.atoms → IsQuery query
    → HasMatch (InWorld entries set) query.head query.body plan.head
    → IsSafelyContained rules (views_of fragments) query (plan_query plan) set
