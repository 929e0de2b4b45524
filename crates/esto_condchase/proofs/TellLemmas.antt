-- A set answers a query, or a part of a union, exactly where its world has a match of the query, or of one of the union's queries, head to head with the
-- plan's head.
use Rattle.std.proofs.Common.{◌≡◌, ◌⊎◌, ◌↔◌, ◌<◌, inl, inr, ℕ, Bool, List, Some, length, map, slice_get, Contains, refl, sym, ap, subst, ◌∙◌, arith}
use Rattle.esto_term.specs.declared.term.Term.{Term}
use Rattle.esto_term.proofs.ListLemmas.{Contains-at, Contains-map, Contains-map_from, place-from_Contains}
use Rattle.esto_semantics.specs.Containment.{IsContained, IsSatisfiable}
use Rattle.esto_semantics.specs.ExpansionLaws.{ExpansionAnswers, PartExpandsCandidate}
use Rattle.esto_semantics.specs.Facts.{image}
use Rattle.esto_semantics.specs.Listed.{candidate, AnswersQuery}
use Rattle.esto_semantics.specs.ListedLaws.{ChosenAreNamed}
use Rattle.esto_semantics.specs.Maps.{IsConstant}
use Rattle.esto_semantics.specs.PlanLaws.{ContainedCandidateIsEquivalent}
use Rattle.esto_semantics.specs.Plans.{IsUniversalPlan}
use Rattle.esto_semantics.specs.Queries.{ConjunctiveQuery, IsAnswer, IsQuery}
use Rattle.esto_semantics.specs.Rewritings.{IsPlanFor}
use Rattle.esto_semantics.specs.Rules.{Rule, AreRules}
use Rattle.esto_term.specs.Sets.{Has}
use Rattle.esto_semantics.specs.Views.{IsFragmentAnswer}
use Rattle.esto_semantics.specs.declared.fact.Fact.{Fact}
use Rattle.esto_term.proofs.SetLemmas.{Has-within}
use Rattle.esto_semantics.specs.UnionSets.{AnswersUnion}
use Rattle.esto_query.specs.Making.{query_of}
use Rattle.esto_query.specs.declared.query.Query.{Query}
use Rattle.esto_views.specs.Expanded.{Expands}
use Rattle.esto_views.specs.Fragments.{views_of}
use Rattle.esto_views.specs.Plans.{plan_query}
use Rattle.esto_views.specs.Soundness.{IsSoundPlan}
use Rattle.esto_semantics.specs.declared.expanded.ExpandedFact.{ExpandedFact}
use Rattle.esto_views.specs.declared.fragments.FragmentDef.{FragmentDef}
use Rattle.esto_views.specs.declared.plan.Plan.{Plan}
use Rattle.esto_views.specs.Contained.{IsSafelyContained, MatchedSetsAreContained}
use Rattle.esto_chase_laws.specs.WorldLaws.{AreFactsOf, HasMatch, ContainmentShowsMatches}
use Rattle.esto_chase_laws.specs.Worlds.{InWorld, IsBroken, IsDenied}
use Rattle.esto_chase_laws.specs.declared.entry.Claim.{Claim}
use Rattle.esto_chase_laws.specs.declared.entry.Claim.TheVariants.{Fact as Stated}
use Rattle.esto_chase_laws.specs.declared.entry.Entry.{Entry}
use Rattle.esto_views.proofs.ChosenLemmas.{chosen_query, chosen-are_facts, chosen-expands, chosen-given_head}
use Rattle.esto_condchase.specs.Evidence.{AreConditional}
use Rattle.esto_condchase.proofs.ReadLemmas.{answer_matches}

module _ (rules : List Rule) (fragments : List FragmentDef) (rank : ℕ → ℕ) (plan : Plan) (expanded : List ExpandedFact)
    (expands : Expands plan fragments expanded) (entries : List Entry) (are : AreConditional rules rank (length plan.atoms) expanded entries)
    (are_rules : AreRules rules) (sound_plan : IsSoundPlan plan.atoms plan.head plan.names)
    (expand_candidates : PartExpandsCandidate) (means : ExpansionAnswers) (named : ChosenAreNamed)
    (shows : MatchedSetsAreContained) (set : List Bool) (over : length set ≡ length plan.atoms) where
  abbrev start : ConjunctiveQuery
  start = chosen_query plan expanded set

  abbrev Holds : Claim → Type 0
  Holds = InWorld entries set

  are_facts : AreFactsOf expanded set start.body
  are_facts = chosen-are_facts set expanded

  fragment_answers : (database : List (Fact _)) (row : List _)
      → IsFragmentAnswer (views_of fragments) (candidate (plan_query plan) set) database row ↔ IsAnswer start database row
  fragment_answers database row =
      means (views_of fragments) (candidate (plan_query plan) set) start.body
      (chosen-expands plan fragments expanded expands set over expand_candidates) database row

  module _ (query : ConjunctiveQuery) (is_query : IsQuery query) where
    abbrev Matched : Type 0
    Matched = HasMatch Holds query.head query.body plan.head

    abbrev Contained : Type 0
    Contained = IsContained rules (IsFragmentAnswer (views_of fragments) (candidate (plan_query plan) set)) (IsAnswer query)

    start_contained : Contained → IsContained rules (IsAnswer start) (IsAnswer query)
    start_contained contained database meets row answer = contained database meets row ((fragment_answers database row).1 answer)

    -- ---- a match shows what the set is

    contained : Matched → IsSafelyContained rules (views_of fragments) query (plan_query plan) set
    contained = shows rules fragments plan expanded entries set query are_rules sound_plan expands are.derived (are.sound set) over is_query

    -- ---- both ways

    module _ (is_plan : IsPlanFor query (plan_query plan)) (universal : IsUniversalPlan rules (views_of fragments) query (plan_query plan))
        (equivalent : ContainedCandidateIsEquivalent) (found : ContainmentShowsMatches) where
      to_answers : Matched → AnswersQuery rules (views_of fragments) query (plan_query plan) set
      to_answers matched =
          let told = contained matched in
          record {
            has_candidate = told.has_candidate;
            safe = told.safe;
            equivalent = (equivalent rules (views_of fragments) query (plan_query plan) set is_plan universal told.has_candidate told.safe).1 told.contained;
          }

      from_answers : IsSatisfiable rules query → AnswersQuery rules (views_of fragments) query (plan_query plan) set → Matched
      from_answers (database, meets, (row, answer)) answers =
          let given = (fragment_answers database row).0 (answers.equivalent.1 database meets row answer) in
          let received : (IsBroken Holds ⊎ IsDenied rules Holds) → ⊥ =
          (λ which. are.nowhere set which start.body are_facts database meets given.0 given.1 given.2) in
          found expanded rules entries set start query are_rules are_facts (chosen-given_head plan expanded set sound_plan) are.given (are.sound set)
          (are.closed set) (λ broken. received (inl broken)) (λ denied. received (inr denied)) (start_contained answers.equivalent.0)

      pub told : IsSatisfiable rules query → Matched ↔ AnswersQuery rules (views_of fragments) query (plan_query plan) set
      told satisfiable = (to_answers, from_answers satisfiable)

  -- ---- a part of a union

  module _ (are_queries : (query : Query) → IsQuery (query_of query)) (queries : List Query) where
    abbrev OneMatched : Type 0
    OneMatched = (query : Query) × Contains queries query × HasMatch Holds query.head query.body plan.head

    abbrev OfUnion : Type 0
    OfUnion = AnswersUnion rules (views_of fragments) (map query_of queries) (plan_query plan) set

    to_union : OneMatched → OfUnion
    to_union (query, inside, matched) =
        let told = contained (query_of query) (are_queries query) matched in
        record {
          has_candidate = told.has_candidate;
          safe = told.safe;
          contained = λ database meets row answer. (
            query_of query,
            Contains-map query_of queries query inside,
            told.contained database meets row answer,
          );
        }

    -- a term of an atom of the set is a constant, or it stands in a fact of the world
    in_world : (number : ℕ) (atom : Fact Term) → Has set number → slice_get (plan_query plan).body number ≡ Some atom
        → (term : Term) → Contains atom.terms term → IsConstant term ⊎ ((fact : Fact Term) × Holds (Stated fact) × Contains fact.terms term)
    in_world number atom has at term inside =
        let spread = expands.of.spread number in
        let view = expands.of.view number in
        let own = Contains-map_from spread view.head term (subst (λ row. Contains row term) (sym (expands.of.head number atom at)) inside) in
        let from = Contains-map_from (λ (it : FragmentDef). query_of it.view) fragments view
        (Contains-at (views_of fragments) atom.relation view (expands.of.has_view number atom at)) in
        let is_view : IsQuery view = subst IsQuery from.2 (are_queries from.0.view) in
        elim (is_view.safe own.0 own.1) [
          | inl (text, is) ↦ inl (text, sym own.2 ∙ ap spread is ∙ expands.of.keeps number text)
          | inr (part, in_body, in_part) ↦ (let at_place = place-from_Contains view.body part in_body in
              let whole : ExpandedFact = record { atom = number; place = at_place.0; fact = image spread part } in
              let small : number < length plan.atoms = omega (arith, Has-within set number has, over) in
              inr (
                image spread part,
                are.given whole ((expands.exact whole).1 (small, (part, at_place.1, refl))) set has,
                subst (Contains (map spread part.terms)) own.2 (Contains-map spread part.terms own.0 in_part),
              ))
        ]

    placed : OfUnion → (term : Term) → Contains plan.head term
        → IsConstant term ⊎ ((fact : Fact Term) × Holds (Stated fact) × Contains fact.terms term)
    placed answers term inside = elim (answers.safe term inside) [
      | inl constant ↦ inl constant
      | inr (atom, in_chosen, in_atom) ↦ (let at = (named set (plan_query plan).body atom).0 in_chosen in
          in_world at.0 atom at.1 at.2 term in_atom)
    ]

    from_union : ¬ (IsBroken Holds) → ¬ (IsDenied rules Holds) → OfUnion → OneMatched
    from_union whole undenied answers =
        let (database, value, read, meets) = are.database set whole undenied in
        let own : IsAnswer start database (map value plan.head) = (
          value,
          read.keeps,
          (λ fact inside.
              let from = (are_facts fact).0 inside in
              read.facts fact (subst (λ it. Holds (Stated it)) from.3 (are.given from.0 from.1 set from.2))),
          refl,
        ) in
        let (query, inside, (m, keeps, sends, is)) = answers.contained database meets (map value plan.head)
        ((fragment_answers database (map value plan.head)).1 own) in
        let from = Contains-map_from query_of queries query inside in
        let is_query : IsQuery query = subst IsQuery from.2 (are_queries from.0) in (
          from.0,
          from.1,
          subst (λ (it : ConjunctiveQuery). HasMatch Holds it.head it.body plan.head) (sym from.2)
              (answer_matches Holds database value read query m keeps sends plan.head (placed answers) is_query.safe is),
        )

    pub union_told : ¬ (IsBroken Holds) → ¬ (IsDenied rules Holds) → OfUnion ↔ OneMatched
    union_told whole undenied = (from_union whole undenied, to_union)
