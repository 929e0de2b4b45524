-- A match in the world of a set shows that the set's candidate is safe and contained in the query.
use Rattle.std.proofs.Common.{◌≡◌, inl, inr, ℕ, ◌<◌, Bool, List, length, map, Contains, refl, sym, ap, ◌∙◌, subst}
use Rattle.std.proofs.lemmas.List.{length-map}
use Rattle.esto_term.specs.declared.term.Term.{Term}
use Rattle.esto_term.specs.declared.term.Term.TheVariants.{Plain}
use Rattle.esto_term.proofs.ChoiceLemmas.{Decided}
use Rattle.esto_term.proofs.DistinctLemmas.{decided_contains}
use Rattle.esto_term.proofs.ListLemmas.{Contains-at, Contains-map, Contains-map_from, thing_at}
use Rattle.esto_semantics.specs.ExpansionLaws.{ExpansionAnswers, PartExpandsCandidate}
use Rattle.esto_semantics.specs.Listed.{candidate, chosen, IsSafe}
use Rattle.esto_semantics.specs.ListedLaws.{ChosenAreNamed}
use Rattle.esto_semantics.specs.Maps.{IsConstant, IsFixedBy}
use Rattle.esto_semantics.specs.Queries.{ConjunctiveQuery, IsQuery}
use Rattle.esto_semantics.specs.Rules.{Rule, AreRules}
use Rattle.esto_term.specs.Sets.{Has}
use Rattle.esto_semantics.specs.declared.fact.Fact.{Fact}
use Rattle.esto_semantics.proofs.TermLemmas.{Const-apart-Made, Const-apart-Plain, decided_term, term_cases}
use Rattle.esto_views.specs.Expanded.{Expands, facts_chosen}
use Rattle.esto_views.specs.Fragments.{views_of}
use Rattle.esto_views.specs.Plans.{fact_of as atom_of, plan_query}
use Rattle.esto_views.specs.Soundness.{IsSoundPlan}
use Rattle.esto_semantics.specs.declared.expanded.ExpandedFact.{ExpandedFact}
use Rattle.esto_views.specs.declared.fragments.FragmentDef.{FragmentDef}
use Rattle.esto_views.specs.declared.plan.Plan.{Plan}
use Rattle.esto_views.proofs.ChosenLemmas.{chosen_query, chosen-are_facts, chosen-expands, chosen-given_head}
use Rattle.esto_views.proofs.FlatLemmas.{named-flat}
use Rattle.esto_views.specs.Contained.{IsSafelyContained, MatchedSetsAreContained}
use Rattle.esto_chase_laws.specs.Derived.{AreDerived}
use Rattle.esto_chase_laws.specs.WorldLaws.{HasMatch, IsSound, RestsOn, MatchesRestOnAtoms, MatchesShowContainment}
use Rattle.esto_chase_laws.specs.Worlds.{InWorld}
use Rattle.esto_chase_laws.specs.declared.entry.Entry.{Entry}

decided_constant : (term : Term) → Decided (IsConstant term)
decided_constant = term_cases (λ term. Decided (IsConstant term)) (λ text. inl (text, refl))
    (λ number. inr (λ constant. Const-apart-Plain constant.0 number (sym constant.1)))
    (λ rule variable frontier. inr (λ constant. Const-apart-Made constant.0 rule variable frontier (sym constant.1)))

module _ (rules : List Rule) (fragments : List FragmentDef) (plan : Plan) (expanded : List ExpandedFact)
    (expands : Expands plan fragments expanded) (are_rules : AreRules rules)
    (sound_plan : IsSoundPlan plan.atoms plan.head plan.names) (set : List Bool) (over : length set ≡ length plan.atoms) where
  module _ (entries : List Entry) (derived : AreDerived expanded rules entries) (query : ConjunctiveQuery) (is_query : IsQuery query)
      (matched : HasMatch (InWorld entries set) query.head query.body plan.head) (rest : MatchesRestOnAtoms) where
    rests : RestsOn expanded (Contains plan.head) set
    rests = rest expanded rules entries set query plan.head are_rules derived is_query matched

    module _ (named : ChosenAreNamed) where
      -- a variable of the head that stands in an expanded fact of an atom stands in the atom
      in_atom : (variable : ℕ) → Contains plan.head (Plain variable) → (fact : ExpandedFact) → Contains expanded fact → Has set fact.atom
          → Contains fact.fact.terms (Plain variable) → IsFixedBy (chosen set (plan_query plan).body) (Plain variable)
      in_atom variable in_head fact inside has in_fact =
          let told = (expands.exact fact).0 inside in
          let small : fact.atom < length (plan_query plan).body = rw length-map told.0 in
          let atom = thing_at (plan_query plan).body fact.atom small in
          let part = told.1.0 in
          let view = expands.of.view fact.atom in
          let spread = expands.of.spread fact.atom in
          let from = Contains-map_from spread part.terms (Plain variable)
          (subst (λ (it : Fact Term). Contains it.terms (Plain variable)) (sym told.1.2) in_fact) in
          elim (decided_constant from.0) [
            | inl constant ↦ absurd (Const-apart-Plain constant.0 variable
                (sym (expands.of.keeps fact.atom constant.0) ∙ ap spread (sym constant.1) ∙ from.2))
            | inr variable_is ↦ elim (decided_contains decided_term view.head from.0) [
              | inl in_view ↦ inr (
                atom.0,
                (named set (plan_query plan).body atom.0).1 (fact.atom, has, atom.1),
                subst (λ row. Contains row (Plain variable)) (expands.of.head fact.atom atom.0 atom.1)
                    (subst (Contains (map spread view.head)) from.2 (Contains-map spread view.head from.0 in_view)),
              )
              | inr inner ↦ absurd (expands.of.outside fact.atom from.0 small
                  (record { in_body = (part, Contains-at view.body fact.place part told.1.1, from.1); no_constant = variable_is; not_in_head = inner })
                  (inr (subst (Contains plan.head) (sym from.2) in_head)))
            ]
          ]

      is_safe : IsSafe (plan_query plan) set
      is_safe term inside = elim (named-flat plan term (sound_plan.named_head term inside)) [
        | inl constant ↦ inl constant
        | inr (variable, is) ↦ subst (IsFixedBy (chosen set (plan_query plan).body)) (sym is) (by variable (subst (Contains plan.head) is inside))
      ]
        where
          by : (variable : ℕ) → Contains plan.head (Plain variable) → IsFixedBy (chosen set (plan_query plan).body) (Plain variable)
          by variable in_head =
              let (fact, there, has, in_fact) = rests.variables variable in_head in
              in_atom variable in_head fact there has in_fact

      pub safely_contained : IsSound expanded rules entries set → MatchesShowContainment → ExpansionAnswers → PartExpandsCandidate
          → IsSafelyContained rules (views_of fragments) query (plan_query plan) set
      safely_contained sound shows means expand_candidates = record {
        has_candidate = record { over = over ∙ sym (length-map plan.atoms atom_of); some = rests.some };
        safe = is_safe;
        contained = λ database meets row answer.
            shows expanded rules entries set (chosen_query plan expanded set) query (chosen-are_facts set expanded)
            (chosen-given_head plan expanded set sound_plan) sound matched database meets row
            ((means (views_of fragments) (candidate (plan_query plan) set) (facts_chosen set expanded)
            (chosen-expands plan fragments expanded expands set over expand_candidates) database row).0 answer);
      }

pub matched_contained : MatchesRestOnAtoms → ChosenAreNamed → MatchesShowContainment → ExpansionAnswers → PartExpandsCandidate → MatchedSetsAreContained
matched_contained rest named shows means expand_candidates rules fragments plan expanded entries set query are_rules sound_plan expands derived sound over
    is_query matched =
    safely_contained rules fragments plan expanded expands are_rules sound_plan set over entries derived query is_query matched rest named sound shows means
    expand_candidates
