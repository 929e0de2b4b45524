-- The expansion of a plan over fragments exists, atom by atom.
use Rattle.std.proofs.Common.{◌≡◌, inl, inr, ℕ, zero, suc, ◌+◌, ◌<◌, List, [], ◌∷◌, ◌++◌, map, length, Contains, refl, sym, ap, ◌∙◌, subst, arith}
use Rattle.std.proofs.lemmas.List.{length-append}
use Rattle.std.proofs.lemmas.List.Elements.{Contains-append_cases}
use Rattle.std.specs.List.{range_with_len}
use Rattle.esto_query.specs.Making.{query_of}
use Rattle.esto_query.specs.Soundness.{IsSound}
use Rattle.esto_query.specs.declared.query.Query.{Query}
use Rattle.esto_semantics.proofs.CanonicalLemmas.{Mentions-terms_of}
use Rattle.esto_semantics.proofs.TermLemmas.{decided_term}
use Rattle.esto_semantics.specs.Expansions.{IsInner}
use Rattle.esto_semantics.specs.Facts.{image, terms_of}
use Rattle.esto_semantics.specs.Queries.{ConjunctiveQuery}
use Rattle.esto_semantics.specs.declared.fact.Fact.{Fact}
use Rattle.esto_chase_laws.proofs.MakingLemmas.{terms_of-Mentions}
use Rattle.esto_term.proofs.ChoiceLemmas.{Decided}
use Rattle.esto_term.proofs.DistinctLemmas.{decided_contains}
use Rattle.esto_term.proofs.ListLemmas.{Contains-cases, Contains-head, Contains-nil, Contains-rest}
use Rattle.esto_term.specs.declared.term.Term.{Term}
use Rattle.esto_term.specs.declared.term.Term.TheVariants.{Plain}
use Rattle.esto_views.proofs.InnerLemmas.{AreInnerBelow, inner-from_parts, inner_all, inner_none, inner_skips, inner_takes}
use Rattle.esto_semantics.proofs.SubstitutionLemmas.{spread_is}
use Rattle.esto_views.specs.Expanded.{AreExpanded, placed}
use Rattle.esto_views.specs.Fragments.{IsFragment}
use Rattle.esto_views.specs.Plans.{IsAtomOver}
use Rattle.esto_semantics.specs.Spreads.{IsSpread, substituted}
use Rattle.esto_semantics.specs.declared.expanded.ExpandedFact.{ExpandedFact}
use Rattle.esto_views.specs.declared.fragments.FragmentDef.{FragmentDef}
use Rattle.esto_views.specs.declared.plan.PlanAtom.{PlanAtom}

inner_decided : (view : ConjunctiveQuery) (number : ℕ) → Decided (IsInner view (Plain number))
inner_decided view number = elim (decided_contains decided_term (terms_of view.body) (Plain number)) [
  | inr outside ↦ inr (λ inner. outside (Mentions-terms_of view.body (Plain number) inner.in_body))
  | inl inside ↦ elim (decided_contains decided_term view.head (Plain number)) [
    | inl in_head ↦ inr (λ inner. inner.not_in_head in_head)
    | inr apart ↦ inl (inner-from_parts view number (terms_of-Mentions view.body (Plain number) inside) apart)
  ]
]

inner_below : (view : ConjunctiveQuery) (bound : ℕ) → (numbers : List ℕ) × AreInnerBelow view bound numbers
inner_below view zero = ([], inner_none view)
inner_below view (suc bound) =
    let before = inner_below view bound in
    let same : bound + 1 ≡ suc bound = omega arith in elim (inner_decided view bound) [
      | inl inner ↦ (before.0 ++ bound ∷ [], subst (λ it. AreInnerBelow view it (before.0 ++ bound ∷ [])) same (inner_takes view bound before.0 before.1 inner))
      | inr outer ↦ (before.0, subst (λ it. AreInnerBelow view it before.0) same (inner_skips view bound before.0 before.1 outer))
    ]

module _ (queries : (query : Query) → IsSound query.head query.body query.names) (fragments : List FragmentDef) where
  spread_exists : (fragment : FragmentDef) (terms : List Term) (first : ℕ) → IsFragment fragment → length terms ≡ length fragment.view.head
      → (next : ℕ) × (m : Term → Term) × IsSpread (query_of fragment.view) terms first next m
  spread_exists fragment terms first is lengths =
      let view = query_of fragment.view in
      let inner = inner_below view (length fragment.view.names) in
      let are = inner_all view (length fragment.view.names) inner.0 inner.1 (queries fragment.view).named in (
        first + length inner.0,
        substituted (view.head ++ map Plain inner.0) (terms ++ map Plain (range_with_len first (length inner.0))),
        spread_is view terms first (first + length inner.0) inner.0 are is.variables is.distinct lengths refl,
      )

  pub expanded_exists : (atoms : List PlanAtom) (number first : ℕ) → ((atom : PlanAtom) → Contains atoms atom → IsAtomOver atom fragments)
      → (expanded : List ExpandedFact) × AreExpanded fragments number first atoms expanded
  expanded_exists [] number first over = ([], refl)
  expanded_exists (atom ∷ atoms) number first over =
      let (fragment, at, is, lengths) = over atom (Contains-head atom atoms) in
      let (next, m, spread) = spread_exists fragment atom.terms first is lengths in
      let rest = expanded_exists atoms (number + 1) next (λ other inside. over other (Contains-rest atom atoms other inside)) in
      (placed number 0 (map (image m) fragment.view.body) ++ rest.0, (fragment, at, (next, (m, spread, (rest.0, refl, rest.1)))))

-- ---- its places

placed_below : (atom place : ℕ) (facts : List (Fact Term)) (fact : ExpandedFact) → Contains (placed atom place facts) fact
    → fact.place < place + length facts
placed_below atom place [] fact none = absurd (Contains-nil fact none)
placed_below atom place (first ∷ facts) fact inside = elim (Contains-cases _ (placed atom (place + 1) facts) fact inside) [
  | inl is ↦ let here : fact.place ≡ place = ap (λ (it : ExpandedFact). it.place) (sym is) in omega (arith, here)
  | inr later ↦ let below = placed_below atom (place + 1) facts fact later in omega (arith, below)
]

placed_length : (atom place : ℕ) (facts : List (Fact Term)) → length (placed atom place facts) ≡ length facts
placed_length atom place [] = refl
placed_length atom place (first ∷ facts) = ap suc (placed_length atom (place + 1) facts)

-- the place of an expanded fact is below how many expanded facts there are
pub place_below : (fragments : List FragmentDef) (number first : ℕ) (atoms : List PlanAtom) (expanded : List ExpandedFact)
    → AreExpanded fragments number first atoms expanded → (fact : ExpandedFact) → Contains expanded fact → fact.place < length expanded
place_below fragments number first [] expanded none fact inside =
    absurd (Contains-nil fact (subst (λ (it : List ExpandedFact). Contains it fact) none inside))
place_below fragments number first (atom ∷ atoms) expanded (fragment, at, (next, (m, spread, (rest, is, more)))) fact inside =
    let facts = map (image m) fragment.view.body in
    let long : length expanded ≡ length facts + length rest =
    ap length is ∙ length-append (placed number 0 facts) rest ∙ ap (λ (it : ℕ). it + length rest) (placed_length number 0 facts) in
    elim (Contains-append_cases (placed number 0 facts) rest fact (subst (λ (it : List ExpandedFact). Contains it fact) is inside)) [
      | inl here ↦ let below = placed_below number 0 facts fact here in omega (arith, long, below)
      | inr later ↦ let below = place_below fragments (number + 1) next atoms rest more fact later in omega (arith, long, below)
    ]
