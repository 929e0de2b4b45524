-- The end of a run under new names, and what it is minimised to.
use Rattle.std.proofs.Common.{◌≡◌, ◌≢◌, inl, inr, List, [], ◌∷◌, length, map, Contains, refl, sym, ap, ◌∙◌, subst}
use Rattle.std.proofs.lemmas.List.{length-map}
use Rattle.esto_term.specs.declared.term.Term.{Term}
use Rattle.esto_term.proofs.ListLemmas.{Contains-map_from, map_then}
use Rattle.esto_semantics.specs.Containment.{IsSatisfiable}
use Rattle.esto_semantics.specs.ContainmentLaws.{InstanceSatisfies}
use Rattle.esto_semantics.specs.Expansions.{IsOfQuery}
use Rattle.esto_semantics.specs.Instances.{IsUniversalFor, MapsTo}
use Rattle.esto_semantics.specs.Listed.{IsEquivalentPart}
use Rattle.esto_semantics.specs.Maps.{IsFlat}
use Rattle.esto_semantics.specs.Queries.{ConjunctiveQuery, IsQuery}
use Rattle.esto_semantics.specs.Rules.{Rule, AreRules}
use Rattle.esto_term.specs.Sets.{IsMinimal}
use Rattle.esto_semantics.specs.declared.fact.Fact.{Fact}
use Rattle.esto_semantics.proofs.FactLemmas.{Sends-then}
use Rattle.esto_chase_laws.specs.ReceivedLaws.{StatesAreUniversalForQueries}
use Rattle.esto_chase_laws.specs.RunLaws.{EndIsOne}
use Rattle.esto_chase_laws.specs.Runs.{start_of}
use Rattle.esto_semantics.specs.CoreLaws.{MapsCompose, RenamedIsReached, RenamedMapsBack}
use Rattle.esto_semantics.specs.Cores.{with_head}
use Rattle.esto_query.specs.declared.query.Name.{Name}
use Rattle.esto_views.specs.RenamedLaws.{RenamedIsOne, RenamedPlanIsRenamed}
use Rattle.esto_views.specs.Renamed.{IsRenamed, IsRenamedPlan}
use Rattle.esto_views.specs.Plans.{fact_of, plan_query}
use Rattle.esto_views.specs.Soundness.{IsNamed, IsSoundPlan}
use Rattle.esto_views.specs.declared.plan.Plan.{Plan}
use Rattle.esto_views.proofs.FlatLemmas.{named-flat}
use Rattle.esto_contain.specs.Ends.{FinishesAt}
use Rattle.esto_contain.specs.Minimised.{instance_of}
use Rattle.esto_contain.specs.MinimisedLaws.{MinimisedIsOne}

-- ---- an instance under new names

-- what an instance that is universal for a query maps to and back is universal for it too
pub universal_alike : MapsCompose → (rules : List Rule) (query end other : ConjunctiveQuery) → MapsTo end other → MapsTo other end
    → IsUniversalFor rules query end → IsUniversalFor rules query other
universal_alike compose rules query end other there back universal = record {
  maps = compose query end other universal.maps there;
  followed = λ database meets m keeps sends.
      let after = universal.followed database meets m keeps sends in (
        (λ term. after.0 (back.0 term)),
        (λ text. ap after.0 (back.1 text) ∙ after.1 text),
        Sends-then back.0 after.0 other.body end.body database back.2 after.2,
        sym (map_then back.0 after.0 other.head) ∙ ap (map after.0) back.3 ∙ after.3,
      );
}

pub end_universal : StatesAreUniversalForQueries → (rules : List Rule) (query end : ConjunctiveQuery) → AreRules rules → IsQuery query
    → FinishesAt rules (start_of query) end → IsUniversalFor rules query end
end_universal universal_states rules query end are_rules is_query finishes =
    universal_states rules query are_rules is_query finishes.trace end finishes.run

pub end_satisfies : StatesAreUniversalForQueries → InstanceSatisfies → (rules : List Rule) (query end : ConjunctiveQuery) → AreRules rules → IsQuery query
    → FinishesAt rules (start_of query) end → IsSatisfiable rules query
end_satisfies universal_states satisfies rules query end are_rules is_query finishes =
    satisfies rules query end are_rules (end_universal universal_states rules query end are_rules is_query finishes) finishes.finished

-- a head to which another is sent has terms where the other has
pub head_stays : (m : Term → Term) (head other : List Term) → head ≢ [] → map m head ≡ other → other ≢ []
head_stays m [] other full is = absurd (full refl)
head_stays m (first ∷ rest) [] full is = absurd (cc)
head_stays m (first ∷ rest) (one ∷ others) full is = λ none. cc

pub head_length : (m : Term → Term) (head other : List Term) → map m head ≡ other → length other ≡ length head
head_length m head other is = ap length (sym is) ∙ length-map head m

-- ---- the plan of the end's facts, read as facts

module _ (plan : Plan) (sound : IsSoundPlan plan.atoms plan.head plan.names) (facts : List (Fact Term)) (are : facts ≡ map fact_of plan.atoms) where
  pub facts_named : (term : Term) → IsOfQuery (with_head plan.head facts) term → IsNamed plan.names term
  facts_named term (inr in_head) = sound.named_head term in_head
  facts_named term (inl (fact, inside, in_fact)) =
      let atom = Contains-map_from fact_of plan.atoms fact (subst (λ its. Contains its fact) are inside) in
      sound.named_atoms atom.0 atom.1 term (subst (λ (it : Fact Term). Contains it.terms term) (sym atom.2) in_fact)

  pub facts_flat : (term : Term) → IsOfQuery (with_head plan.head facts) term → IsFlat term
  facts_flat term inside = named-flat plan term (facts_named term inside)

  pub facts_renamed : (names : List Name) (rows : List (Fact Term)) (head : List Term) → IsRenamedPlan names rows head plan
      → IsRenamed names (with_head head rows) (with_head plan.head facts) plan.names
  facts_renamed names rows head renamed =
      subst (λ its. IsRenamed names (with_head head rows) (with_head plan.head its) plan.names) (sym are) renamed

  pub facts_universal : MapsCompose → RenamedPlanIsRenamed → RenamedIsReached → RenamedMapsBack → (names : List Name) (rules : List Rule)
      (query : ConjunctiveQuery) (rows : List (Fact Term)) (head : List Term) → IsRenamedPlan names rows head plan
      → IsUniversalFor rules query (with_head head rows) → IsUniversalFor rules query (with_head plan.head facts)
  facts_universal compose is_renamed reached back names rules query rows head renamed universal =
      let to = is_renamed names rows head plan renamed in
      subst (λ its. IsUniversalFor rules query (with_head plan.head its)) (sym are)
      (universal_alike compose rules query (with_head head rows) (plan_query plan) (reached (with_head head rows) (plan_query plan) to)
      (back (with_head head rows) (plan_query plan) to) universal)

-- ---- there is one

pub minimised_is_one : EndIsOne → RenamedIsOne → MinimisedIsOne
minimised_is_one ends renamed_one rules names query minimal other are_rules is again = (
  same.0,
  same.1,
  λ set. (
    λ inside. (again.exact set).1 (subst (λ it. IsMinimal (IsEquivalentPart rules query it) set) same.0 ((is.exact set).0 inside)),
    λ inside. (is.exact set).1 (subst (λ it. IsMinimal (IsEquivalentPart rules query it) set) (sym same.0) ((again.exact set).0 inside)),
  ),
)
  where
    end : is.end ≡ again.end
    end = ends rules (start_of query) are_rules is.finishes.trace again.finishes.trace is.end again.end is.finishes.run again.finishes.run
        (inl is.finishes.finished) (inl again.finishes.finished)

    same : (instance_of minimal ≡ instance_of other) × (minimal.names ≡ other.names)
    same = renamed_one names again.end (instance_of minimal) (instance_of other) minimal.names other.names
        (subst (λ it. IsRenamed names it (instance_of minimal) minimal.names) end is.renamed) again.renamed
