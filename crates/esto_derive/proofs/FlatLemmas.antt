-- The expanded facts of a plan are of constants and variables.
use Rattle.std.proofs.Common.{◌≡◌, inl, inr, ℕ, ◌<◌, Bool, true, false, List, Some, length, slice_get, Contains, subst, refl, sym, ap, ◌∙◌}
use Rattle.std.specs.Bool.{Decides}
use Rattle.std.specs.Set.{is_member}
use Rattle.std.proofs.lemmas.List.{length-map}
use Rattle.std.proofs.lemmas.Map.Made.{is_member-Decides}
use Rattle.esto_term.proofs.ListLemmas.{Contains-at, Contains-map, Contains-map_from, map_at, map_at-from, thing_at}
use Rattle.esto_term.specs.Order.{same_term}
use Rattle.esto_term.specs.declared.term.Term.{Term}
use Rattle.esto_term.specs.declared.term.Term.TheVariants.{Const, Plain}
use Rattle.esto_semantics.proofs.TermLemmas.{same_term-Decides}
use Rattle.esto_semantics.specs.Maps.{AreFlat, IsFlat, IsVariable}
use Rattle.esto_semantics.specs.declared.fact.Fact.{Fact}
use Rattle.esto_query.specs.Making.{query_of}
use Rattle.esto_query.specs.Soundness.{IsSound}
use Rattle.esto_query.specs.declared.query.Query.{Query}
use Rattle.esto_views.specs.Expanded.{Expands}
use Rattle.esto_semantics.specs.Expanded.{facts_of}
use Rattle.esto_views.specs.Plans.{plan_query, fact_of}
use Rattle.esto_views.specs.Soundness.{IsSoundPlan}
use Rattle.esto_semantics.specs.declared.expanded.ExpandedFact.{ExpandedFact}
use Rattle.esto_views.specs.declared.fragments.FragmentDef.{FragmentDef}
use Rattle.esto_views.specs.declared.plan.PlanAtom.{PlanAtom}
use Rattle.esto_views.specs.declared.plan.Plan.{Plan}

module _ (plan : Plan) (fragments : List FragmentDef) (expanded : List ExpandedFact) (expands : Expands plan fragments expanded)
    (sound : IsSoundPlan plan.atoms plan.head plan.names) (queries : (query : Query) → IsSound query.head query.body query.names) where
  -- the fact over fragments of an atom, which has its view
  module _ (number : ℕ) (within : number < length plan.atoms) where
    atom : (it : PlanAtom) × (slice_get plan.atoms number ≡ Some it)
    atom = thing_at plan.atoms number within

    in_query : slice_get (plan_query plan).body number ≡ Some (fact_of atom.0)
    in_query = map_at fact_of plan.atoms number atom.0 atom.1

    flat_atom : (term : Term) → Contains atom.0.terms term → IsFlat term
    flat_atom term inside = elim (sound.named_atoms atom.0 (Contains-at plan.atoms number atom.0 atom.1) term inside) [
      | inl constant ↦ inl constant
      | inr named ↦ inr (named.0, named.1)
    ]

    flat_view : (part : Fact Term) → Contains (expands.of.view number).body part → (term : Term) → Contains part.terms term → IsFlat term
    flat_view part part_inside term inside =
        let has_view = expands.of.has_view number (fact_of atom.0) in_query in
        let fragment = map_at-from (λ (it : FragmentDef). query_of it.view) fragments atom.0.fragment (expands.of.view number) has_view in
        (queries fragment.0.view).query.flat_body term (
          part,
          subst (λ it. Contains it part) (ap (λ it. it.body) (sym fragment.2)) part_inside,
          inside,
        )

    sent : (part : Fact Term) → Contains (expands.of.view number).body part → (term : Term) → Contains part.terms term → IsFlat (expands.of.spread number term)
    sent part part_inside term inside =
        elim (flat_view part part_inside term inside) [
          | inl constant ↦ inl (constant.0, ap (expands.of.spread number) constant.1 ∙ expands.of.keeps number constant.0)
          | inr variable ↦ by (is_member same_term (expands.of.view number).head term)
              (is_member-Decides same_term-Decides (expands.of.view number).head term) variable
        ]
      where
        by : (answer : Bool) → Decides answer (Contains (expands.of.view number).head term) → IsVariable term → IsFlat (expands.of.spread number term)
        by true decides variable = flat_atom (expands.of.spread number term)
            (subst (λ (it : List Term). Contains it (expands.of.spread number term)) (expands.of.head number (fact_of atom.0) in_query)
            (Contains-map (expands.of.spread number) (expands.of.view number).head term (decides.0 refl)))
        by false decides variable = inr (expands.of.variable number term (subst (λ (it : ℕ). number < it) (sym (length-map plan.atoms fact_of)) within)
            (record {
              in_body = (part, part_inside, inside);
              no_constant = λ constant. let wrong : Plain variable.0 ≡ Const constant.0 = sym variable.1 ∙ constant.1 in cc;
              not_in_head = λ in_head. let wrong : false ≡ true = decides.1 in_head in cc;
            }))

  pub flat : AreFlat (facts_of expanded)
  flat term (fact, fact_inside, inside) =
      let its = Contains-map_from (λ (it : ExpandedFact). it.fact) expanded fact fact_inside in
      let known = (expands.exact its.0).0 its.1 in
      let source = Contains-map_from (expands.of.spread its.0.atom) known.1.0.terms term
      (subst (λ (it : Fact Term). Contains it.terms term) (sym (known.1.2 ∙ its.2)) inside) in
      subst IsFlat source.2 (sent its.0.atom known.0 known.1.0 (Contains-at
      (expands.of.view its.0.atom).body its.0.place known.1.0 known.1.1) source.0 source.1)
