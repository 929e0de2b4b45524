-- Candidates of a plan: they contain the query, and those of rewritings are executable rewritings.
use Rattle.std.proofs.Common.{◌≡◌, ◌≢◌, ◌↔◌, inl, inr, ℕ, ◌<◌, Bool, true, false, List, [], map, length, replicate, slice_get, Some, Contains, refl, sym, ap}
use Rattle.std.proofs.Common.{◌∙◌, subst, arith}
use Rattle.std.proofs.lemmas.List.{get_or-replicate, length-replicate}
use Rattle.std.proofs.lemmas.Option.{slice_get_within}
use Rattle.esto_term.specs.declared.term.Term.{Term}
use Rattle.esto_semantics.specs.Access.{Patterns, IsOrder, IsExecutableQuery}
use Rattle.esto_semantics.specs.Containment.{IsContained, IsEquivalent}
use Rattle.esto_semantics.specs.Facts.{image, Mentions}
use Rattle.esto_semantics.specs.Instances.{MapsTo}
use Rattle.esto_semantics.specs.Listed.{chosen, candidate, HasCandidate, IsSafe, IsRewriting, IsExecutableRewriting}
use Rattle.esto_semantics.specs.Maps.{IsFlat}
use Rattle.esto_semantics.specs.Plans.{IsUniversalPlan}
use Rattle.esto_semantics.specs.Queries.{ConjunctiveQuery, IsQuery, IsAnswer}
use Rattle.esto_semantics.specs.Rewritings.{IsPlanFor}
use Rattle.esto_semantics.specs.Rules.{Rule}
use Rattle.esto_term.specs.Sets.{Has}
use Rattle.esto_semantics.specs.Views.{IsFragmentAnswer}
use Rattle.esto_semantics.specs.declared.fact.Fact.{Fact}
use Rattle.esto_semantics.proofs.FactLemmas.{image_itself, Mentions-among}
use Rattle.esto_semantics.proofs.PlaceLemmas.{chosen-from_Has, Has-from_chosen, rank, chosen_at-rank, number_at, number_at-chosen}
use Rattle.esto_term.proofs.SetLemmas.{Has-within}
use Rattle.esto_semantics.proofs.ScheduleLemmas.{once_each, atom_in_order, IsOrder-moved}
use Rattle.esto_term.proofs.ListLemmas.{Contains-at, Contains-map, Contains-map_from, Contains-nil, map_itself, thing_at}

module _ (plan : ConjunctiveQuery) (set : List Bool) where
  pub chosen-among : (atom : Fact Term) → Contains (chosen set plan.body) atom → Contains plan.body atom
  chosen-among atom inside = let found = Has-from_chosen set plan.body atom inside in Contains-at plan.body found.0 atom found.2

  pub candidate-MapsTo : MapsTo (candidate plan set) plan
  candidate-MapsTo = (
    (λ term. term),
    (λ text. refl),
    (λ atom inside. subst (Contains plan.body) (sym (image_itself atom)) (chosen-among atom inside)),
    map_itself plan.head,
  )

  module _ (query : ConjunctiveQuery) (form : IsPlanFor query plan) (has_candidate : HasCandidate plan set) (safe : IsSafe plan set) where
    chosen_flat : (term : Term) → Mentions (chosen set plan.body) term → IsFlat term
    chosen_flat term inside = form.flat_body term (Mentions-among (chosen set plan.body) plan.body term chosen-among inside)

    some_chosen : chosen set plan.body ≢ []
    some_chosen none =
        let some = has_candidate.some in
        let below : some.0 < length set = Has-within set some.0 some.1 in
        let over : length set ≡ length plan.body = has_candidate.over in
        let at = thing_at plan.body some.0 (omega arith) in
        Contains-nil at.0 (subst (λ atoms. Contains atoms at.0) none (chosen-from_Has set plan.body some.0 at.0 some.1 at.1))

    pub candidate-IsQuery : IsQuery (candidate plan set)
    candidate-IsQuery = record {
      has_head = form.has_head;
      has_body = some_chosen;
      flat_head = λ term inside. elim (safe term inside) [
        | inl constant ↦ inl constant
        | inr mentioned ↦ chosen_flat term mentioned
      ];
      flat_body = chosen_flat;
      safe = safe;
    }

    pub candidate-contains : (rules : List Rule) (views : List ConjunctiveQuery) → IsUniversalPlan rules views query plan
        → IsContained rules (IsAnswer query) (IsFragmentAnswer views (candidate plan set))
    candidate-contains rules views universal = (universal (candidate plan set) candidate-IsQuery form.same_length).1 candidate-MapsTo

    pub candidate-equivalent : (rules : List Rule) (views : List ConjunctiveQuery) → IsUniversalPlan rules views query plan
        → IsEquivalent rules (IsFragmentAnswer views (candidate plan set)) (IsAnswer query)
        ↔ IsContained rules (IsFragmentAnswer views (candidate plan set)) (IsAnswer query)
    candidate-equivalent rules views universal = ((λ both. both.0), (λ contained. (contained, candidate-contains rules views universal)))

-- ---- executable candidates

module _ (patterns : Patterns) (plan : ConjunctiveQuery) (set : List Bool) (order : List ℕ) (is_order : IsOrder patterns plan.body set order) where
  abbrev all : List Bool
  all = replicate (length (chosen set plan.body)) true

  moves : (number : ℕ) (atom : Fact Term) → Has set number → slice_get plan.body number ≡ Some atom
      → slice_get (chosen set plan.body) (rank set number) ≡ Some (image (λ term. term) atom)
  moves number atom has at = chosen_at-rank set plan.body number atom has at ∙ ap Some (sym (image_itself atom))

  ranks_are : (place : ℕ) → Contains (map (rank set) order) place ↔ Has all place
  ranks_are place = (
    (λ inside.
        let from = Contains-map_from (rank set) order place inside in
        let at = atom_in_order patterns plan.body set order is_order from.0 from.1 in
        let ranked = chosen_at-rank set plan.body from.0 at.0 ((is_order.names from.0).0 from.1) at.1 in
        subst (Has all) from.2
        (get_or-replicate (length (chosen set plan.body)) (rank set from.0) true false
        (slice_get_within (chosen set plan.body) (rank set from.0) at.0 ranked))),
    (λ has.
        let below = Has-within all place has in
        let count : length all ≡ length (chosen set plan.body) = length-replicate (length (chosen set plan.body)) true in
        let at = thing_at (chosen set plan.body) place (omega arith) in
        let from = number_at-chosen set plan.body place at.0 at.1 in
        subst (Contains (map (rank set) order)) from.2 (Contains-map (rank set) order (number_at set place) ((is_order.names (number_at set place)).1 from.0))),
  )

  pub candidate-IsExecutableQuery : IsExecutableQuery patterns (candidate plan set)
  candidate-IsExecutableQuery = (
    once_each [] (map (rank set) order),
    IsOrder-moved patterns plan.body (chosen set plan.body) set (λ term. term) (λ text. refl) (rank set) moves order is_order all
        (length-replicate (length (chosen set plan.body)) true) ranks_are,
  )

-- a set that is a rewriting has an executable rewriting as its candidate
pub candidate-IsExecutableRewriting : (rules : List Rule) (views : List ConjunctiveQuery) (patterns : Patterns) (query plan : ConjunctiveQuery)
    (set : List Bool)
    → IsPlanFor query plan → IsRewriting rules views patterns query plan set → IsExecutableRewriting rules views patterns query (candidate plan set)
candidate-IsExecutableRewriting rules views patterns query plan set form rewriting = record {
  is_query = candidate-IsQuery plan set query form rewriting.has_candidate rewriting.safe;
  executable = candidate-IsExecutableQuery patterns plan set rewriting.executable.0 rewriting.executable.1;
  equivalent = rewriting.equivalent;
}
