-- The facts of an expansion that come from atoms of a set: they are an expansion of the set's candidate.
use Rattle.std.proofs.Common.{◌≡◌, inl, inr, ◌<◌, Bool, true, false, cond, List, [], ◌∷◌, length, slice_index_or, Contains, refl, sym, subst, ◌∙◌, arith}
use Rattle.std.proofs.lemmas.Bool.{false≢true}
use Rattle.std.proofs.lemmas.List.{length-map}
use Rattle.esto_term.specs.declared.term.Term.{Term}
use Rattle.esto_term.proofs.ListLemmas.{Contains-at, Contains-cases, Contains-head, Contains-nil, Contains-rest, place-from_Contains}
use Rattle.esto_term.specs.Sets.{Has}
use Rattle.esto_term.proofs.SetLemmas.{Has-within}
use Rattle.esto_semantics.specs.Expanded.{facts_of}
use Rattle.esto_semantics.specs.ExpansionLaws.{PartExpandsCandidate}
use Rattle.esto_semantics.specs.Expansions.{IsExpansion, IsPartOf}
use Rattle.esto_semantics.specs.Listed.{candidate}
use Rattle.esto_semantics.specs.Queries.{ConjunctiveQuery}
use Rattle.esto_semantics.specs.declared.expanded.ExpandedFact.{ExpandedFact}
use Rattle.esto_semantics.specs.declared.fact.Fact.{Fact}
use Rattle.esto_chase_laws.specs.WorldLaws.{AreFactsOf, HasGivenHead}
use Rattle.esto_views.specs.Expanded.{Expands, facts_chosen}
use Rattle.esto_views.specs.Fragments.{views_of}
use Rattle.esto_views.specs.Plans.{fact_of, plan_query}
use Rattle.esto_views.specs.Soundness.{IsSoundPlan}
use Rattle.esto_views.specs.declared.fragments.FragmentDef.{FragmentDef}
use Rattle.esto_views.specs.declared.plan.Plan.{Plan}
use Rattle.esto_views.proofs.FlatLemmas.{named-flat}

-- ---- the facts that come from atoms of a set

-- the fact comes from an atom of the set
abbrev pub IsFrom : List Bool → List ExpandedFact → Fact Term → Type 0
IsFrom set expanded fact = (part : ExpandedFact) × Contains expanded part × Has set part.atom × (part.fact ≡ fact)

pub chosen-from : (set : List Bool) (expanded : List ExpandedFact) (fact : Fact Term) → Contains (facts_chosen set expanded) fact → IsFrom set expanded fact
chosen-from set [] fact inside = absurd (Contains-nil fact inside)
chosen-from set (first ∷ rest) fact inside = by (λ later. chosen-from set rest fact later) (slice_index_or set first.atom false) refl inside
  where
    later : IsFrom set rest fact → IsFrom set (first ∷ rest) fact
    later (part, there, has, is) = (part, Contains-rest first rest part there, has, is)

    by : (Contains (facts_chosen set rest) fact → IsFrom set rest fact) → (answer : Bool) → slice_index_or set first.atom false ≡ answer
        → Contains (cond answer (first.fact ∷ facts_chosen set rest) (facts_chosen set rest)) fact → IsFrom set (first ∷ rest) fact
    by again true told inside = elim (Contains-cases first.fact (facts_chosen set rest) fact inside) [
      | inl is ↦ (first, Contains-head first rest, told, is)
      | inr more ↦ later (again more)
    ]
    by again false told inside = later (again inside)

pub from-chosen : (set : List Bool) (expanded : List ExpandedFact) (part : ExpandedFact) → Contains expanded part → Has set part.atom
    → Contains (facts_chosen set expanded) part.fact
from-chosen set [] part there has = absurd (Contains-nil part there)
from-chosen set (first ∷ rest) part there has = by (λ later. from-chosen set rest part later has) (slice_index_or set first.atom false) refl
  where
    by : (Contains rest part → Contains (facts_chosen set rest) part.fact) → (answer : Bool) → slice_index_or set first.atom false ≡ answer
        → Contains (cond answer (first.fact ∷ facts_chosen set rest) (facts_chosen set rest)) part.fact
    by again true told = elim (Contains-cases first rest part there) [
      | inl is ↦ subst (λ (it : ExpandedFact). Contains (first.fact ∷ facts_chosen set rest) it.fact) is
          (Contains-head first.fact (facts_chosen set rest))
      | inr more ↦ Contains-rest first.fact (facts_chosen set rest) part.fact (again more)
    ]
    by again false told = elim (Contains-cases first rest part there) [
      | inl is ↦ absurd (false≢true (sym told ∙ subst (λ (it : ExpandedFact). Has set it.atom) (sym is) has))
      | inr more ↦ again more
    ]

pub chosen-are_facts : (set : List Bool) (expanded : List ExpandedFact) → AreFactsOf expanded set (facts_chosen set expanded)
chosen-are_facts set expanded fact = (
  λ inside. chosen-from set expanded fact inside,
  λ (part, there, has, is). subst (Contains (facts_chosen set expanded)) is (from-chosen set expanded part there has),
)

-- ---- with the plan's head

-- the plan's head over the facts of the set
abbrev pub chosen_query : Plan → List ExpandedFact → List Bool → ConjunctiveQuery
chosen_query plan expanded set = record { head = plan.head; body = facts_chosen set expanded }

pub chosen-given_head : (plan : Plan) (expanded : List ExpandedFact) (set : List Bool) → IsSoundPlan plan.atoms plan.head plan.names
    → HasGivenHead (chosen_query plan expanded set)
chosen-given_head plan expanded set sound term inside = inl (named-flat plan term (sound.named_head term inside))

module _ (plan : Plan) (fragments : List FragmentDef) (expanded : List ExpandedFact) (expands : Expands plan fragments expanded) (set : List Bool)
    (over : length set ≡ length plan.atoms) where
  -- they are the part of the expansion that is the set's
  pub chosen-is_part : IsPartOf expands.of set (facts_chosen set expanded)
  chosen-is_part fact = (
    λ inside.
        let from = chosen-from set expanded fact inside in
        let told = (expands.exact from.0).0 from.1 in
        (from.0.atom, from.2, (told.1.0, Contains-at (expands.of.view from.0.atom).body from.0.place told.1.0 told.1.1, told.1.2 ∙ from.3)),
    λ (number, has, (part, inside, is)).
        let at = place-from_Contains (expands.of.view number).body part inside in
        let whole : ExpandedFact = record { atom = number; place = at.0; fact = fact } in
        let small : number < length plan.atoms = omega (arith, Has-within set number has, over) in
        from-chosen set expanded whole ((expands.exact whole).1 (small, (part, at.1, is))) has,
  )

  pub chosen-expands : PartExpandsCandidate → IsExpansion (views_of fragments) (candidate (plan_query plan) set) (facts_chosen set expanded)
  chosen-expands expand_candidates =
      expand_candidates (views_of fragments) (plan_query plan) (facts_of expanded) expands.of set (over ∙ sym (length-map plan.atoms fact_of))
      (facts_chosen set expanded) chosen-is_part
