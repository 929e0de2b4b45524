-- A verdict is also that of what says the same.
use Rattle.std.proofs.Common.{◌≡◌, ◌↔◌, ℕ, ◌+◌, ◌<◌, List, [], ◌∷◌, ◌++◌, length, map, Some, slice_get, Contains, sym, ap, ◌∙◌, subst}
use Rattle.std.proofs.lemmas.List.{length-map}
use Rattle.esto_term.specs.declared.term.Term.{Term}
use Rattle.esto_term.proofs.ListLemmas.{map_at, map_at-from, first_same, rest_same}
use Rattle.esto_query.specs.Making.{query_of}
use Rattle.esto_semantics.specs.Expansions.{IsExpansion}
use Rattle.esto_semantics.specs.Facts.{image}
use Rattle.esto_semantics.specs.Queries.{ConjunctiveQuery}
use Rattle.esto_semantics.specs.declared.fact.Fact.{Fact}
use Rattle.esto_views.specs.Expanded.{placed, AreExpanded, Expands}
use Rattle.esto_semantics.specs.Expanded.{facts_of}
use Rattle.esto_views.specs.Fragments.{views_of}
use Rattle.esto_views.specs.Plans.{fact_of as atom_of, plan_query}
use Rattle.esto_semantics.specs.Spreads.{IsSpread}
use Rattle.esto_semantics.specs.declared.expanded.ExpandedFact.{ExpandedFact}
use Rattle.esto_views.specs.declared.fragments.FragmentDef.{FragmentDef}
use Rattle.esto_views.specs.declared.plan.Plan.{Plan}
use Rattle.esto_views.specs.declared.plan.PlanAtom.{PlanAtom}
use Rattle.esto_cert.specs.Certificates.{Case}
use Rattle.esto_cert.specs.Judging.{case_for, Decides}
use Rattle.esto_cert.specs.Showing.{VerdictsAreMoved}

-- ---- the expanded facts of one plan are those of the other

module _ (fragments others : List FragmentDef) (views : views_of fragments ≡ views_of others) where
  -- the other fragment of the number, whose view is the same
  viewed : (number : ℕ) (fragment : FragmentDef) → slice_get fragments number ≡ Some fragment
      → (other : FragmentDef) × (slice_get others number ≡ Some other) × (query_of fragment.view ≡ query_of other.view)
  viewed number fragment at =
      let view : FragmentDef → ConjunctiveQuery = (λ it. query_of it.view) in
      let there : slice_get (views_of others) number ≡ Some (query_of fragment.view) =
      subst (λ (it : List ConjunctiveQuery). slice_get it number ≡ Some (query_of fragment.view)) views (map_at view fragments number fragment at) in
      let (other, at_other, is) = map_at-from view others number (query_of fragment.view) there in
      (other, at_other, sym is)

  expanded_moved : (number first : ℕ) (atoms again : List PlanAtom) (expanded : List ExpandedFact) → map atom_of atoms ≡ map atom_of again
      → AreExpanded fragments number first atoms expanded → AreExpanded others number first again expanded
  expanded_moved number first [] [] expanded same is = is
  expanded_moved number first [] (atom ∷ again) expanded same is = absurd (cc)
  expanded_moved number first (atom ∷ atoms) [] expanded same is = absurd (cc)
  expanded_moved number first (atom ∷ atoms) (own ∷ again) expanded same (fragment, at, (next, (m, spread, (rest, is, later)))) =
      let atom_is : atom_of atom ≡ atom_of own = first_same (atom_of atom) (atom_of own) (map atom_of atoms) (map atom_of again) same in
      let (other, at_other, view_is) = viewed atom.fragment fragment at in (
        other,
        subst (λ (it : ℕ). slice_get others it ≡ Some other) (ap (λ (it : Fact Term). it.relation) atom_is) at_other,
        (
          next,
          (
            m,
            subst (λ (it : ConjunctiveQuery). IsSpread it own.terms first next m) view_is
                (subst (λ (it : List Term). IsSpread (query_of fragment.view) it first next m) (ap (λ (it : Fact Term). it.terms) atom_is) spread),
            (
              rest,
              is ∙ ap (λ (it : ConjunctiveQuery). placed number 0 (map (image m) it.body) ++ rest) view_is,
              expanded_moved (number + 1) next atoms again rest (rest_same (atom_of atom) (atom_of own) (map atom_of atoms) (map atom_of again) same)
                  later,
            ),
          ),
        ),
      )

-- what `Expands` says, of views, a query and a count of atoms
abbrev ExpandsAs : List ConjunctiveQuery → ConjunctiveQuery → ℕ → List ExpandedFact → Type 0
ExpandsAs views query count expanded =
    (of : IsExpansion views query (facts_of expanded))
    × ((fact : ExpandedFact) → Contains expanded fact
    ↔ ((fact.atom < count)
    × ((part : Fact Term) × (slice_get (of.view fact.atom).body fact.place ≡ Some part) × (image (of.spread fact.atom) part ≡ fact.fact))))

module _ (plan other : Plan) (fragments others : List FragmentDef) (expanded : List ExpandedFact) (plans : plan_query plan ≡ plan_query other)
    (views : views_of fragments ≡ views_of others) where
  counts : length plan.atoms ≡ length other.atoms
  counts =
      sym (length-map plan.atoms atom_of) ∙ ap (λ (it : ConjunctiveQuery). length it.body) plans ∙ length-map other.atoms atom_of

  expands_moved : Expands plan fragments expanded → Expands other others expanded
  expands_moved expands =
      let told : ExpandsAs (views_of fragments) (plan_query plan) (length plan.atoms) expanded = (expands.of, expands.exact) in
      let moved : ExpandsAs (views_of others) (plan_query other) (length other.atoms) expanded =
      subst (λ (it : ℕ). ExpandsAs (views_of others) (plan_query other) it expanded) counts
      (subst (λ (it : ConjunctiveQuery). ExpandsAs (views_of others) it (length plan.atoms) expanded) plans
      (subst (λ (it : List ConjunctiveQuery). ExpandsAs it (plan_query plan) (length plan.atoms) expanded) views told)) in
      record { of = moved.0; exact = moved.1 }

pub verdicts_moved : VerdictsAreMoved
verdicts_moved plan other fragments others set rules more query again bytes verdict plans names views same_rules queries
    (expanded, exact, expands, flat, decides) =
    let cases : case_for plan set rules query expanded ≡ case_for other set more again expanded = (λ i. record {
      expanded = expanded;
      set = set;
      rules = same_rules i;
      query = queries i;
      targets = (plans i).head;
    }) in (
      expanded,
      subst (λ (it : ℕ). AreExpanded others 0 it other.atoms expanded) names
          (expanded_moved fragments others views 0 (length plan.names) plan.atoms other.atoms expanded (ap (λ (it : ConjunctiveQuery). it.body) plans) exact),
      expands_moved plan other fragments others expanded plans views expands,
      flat,
      subst (λ (it : Case). Decides it bytes verdict) cases decides,
    )
