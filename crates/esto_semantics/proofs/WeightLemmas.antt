-- Weights of atoms: over distinct things, each of which comes from one of another list by a map that keeps weights.
use Rattle.std.proofs.Common.{◌≡◌, ◌≢◌, ◌↔◌, inl, inr, ℕ, ◌+◌, ◌≤◌, List, [], ◌∷◌, ◌++◌, length, get_or, map, slice_index_or, sum, Contains}
use Rattle.std.proofs.Common.{refl, sym, ap, ◌∙◌, subst, arith}
use Rattle.std.specs.List.{AllPairs, sum_by}
use Rattle.std.proofs.lemmas.List.Elements.{Contains-append_cases, Contains-append_left, Contains-append_right}
use Rattle.std.proofs.lemmas.List.Sums.{sum-map, sum_by-append, sum_by-cons}
use Rattle.esto_semantics.specs.Facts.{image}
use Rattle.esto_semantics.specs.Listed.{chosen, IsWeight}
use Rattle.esto_semantics.specs.ListedLaws.{WeightExists, WeightRises, WeightIsOne, WeightIsSum}
use Rattle.esto_semantics.specs.PlanLaws.{OntoWeighsNoMore}
use Rattle.esto_semantics.specs.declared.fact.Fact.{Fact}
use Rattle.esto_term.specs.declared.term.Term.{Term}
use Rattle.esto_semantics.proofs.FactLemmas.{decided_fact}
use Rattle.esto_semantics.proofs.TermLemmas.{decided_term}
use Rattle.esto_semantics.proofs.ListedLemmas.{chosen_once}
use Rattle.esto_term.proofs.ChoiceLemmas.{Decided, decided_below, pairs_cons}
use Rattle.esto_term.proofs.DistinctLemmas.{distinct_head, distinct_rest, split}
use Rattle.esto_term.proofs.ListLemmas.{Contains-cases, Contains-head, Contains-map_from, Contains-rest}

module _ {X : Type 0} where
  module _ (weight : X → ℕ) (g : X → X) (kept : (thing : X) → weight (g thing) ≡ weight thing) where
    weighs_no_more : (things others : List X) → AllPairs {X = X} ◌≢◌ things
        → ((thing : X) → Contains things thing → (other : X) × Contains others other × (g other ≡ thing))
        → sum_by weight things ≤ sum_by weight others
    weighs_no_more [] others distinct from = omega arith
    weighs_no_more (first ∷ rest) others distinct from =
        let source = from first (Contains-head first rest) in
        let parts = split others source.0 source.1 in
        let further = weighs_no_more rest (parts.0 ++ parts.1) (distinct_rest first rest distinct)
        (λ thing inside. left_over thing inside source.0 source.2 parts.0 parts.1 parts.2) in
        let total : sum_by weight others ≡ sum_by weight parts.0 + sum_by weight (source.0 ∷ parts.1) = ap (sum_by weight) parts.2
        ∙ sum_by-append weight parts.0 (source.0 ∷ parts.1) in
        let one : sum_by weight (source.0 ∷ parts.1) ≡ weight source.0 + sum_by weight parts.1 = sum_by-cons weight source.0 parts.1 in
        let both : sum_by weight (parts.0 ++ parts.1) ≡ sum_by weight parts.0 + sum_by weight parts.1 = sum_by-append weight parts.0 parts.1 in
        let own : sum_by weight (first ∷ rest) ≡ weight first + sum_by weight rest = sum_by-cons weight first rest in
        let same : weight first ≡ weight source.0 = ap weight (sym source.2) ∙ kept source.0 in
        omega arith
      where
        left_over : (thing : X) → Contains rest thing → (other : X) → g other ≡ first → (front back : List X) → others ≡ front ++ other ∷ back
            → (again : X) × Contains (front ++ back) again × (g again ≡ thing)
        left_over thing inside other is front back whole =
            let source = from thing (Contains-rest first rest thing inside) in
            elim (Contains-append_cases front (other ∷ back) source.0 (subst (λ all. Contains all source.0) whole source.1)) [
              | inl in_front ↦ (source.0, Contains-append_left front back source.0 in_front, source.2)
              | inr behind ↦ elim (Contains-cases other back source.0 behind) [
                | inl same ↦ absurd (distinct_head first rest thing distinct inside (sym is ∙ ap g same ∙ source.2))
                | inr in_back ↦ (source.0, Contains-append_right front back source.0 in_back, source.2)
              ]
            ]

-- ---- weights of atoms

module _ (weights : List ℕ) where
  -- atoms, each of which is made of one of the others by a map that keeps relations, weigh no more than those
  made_weigh_no_more : (made : Fact Term → Fact Term) → ((atom : Fact Term) → (made atom).relation ≡ atom.relation)
      → (atoms others : List (Fact Term)) (weight other : ℕ)
      → ((atom : Fact Term) → Contains atoms atom → (source : Fact Term) × Contains others source × (made source ≡ atom))
      → IsWeight weights atoms weight → IsWeight weights others other → weight ≤ other
  made_weigh_no_more made kept atoms others weight other from (distinct, once, exact, is) (other_distinct, other_once, other_exact, other_is) =
      let atom_weight : Fact Term → ℕ = λ atom. slice_index_or weights atom.relation 0 in
      let less = weighs_no_more atom_weight made (λ atom. ap (λ relation. slice_index_or weights relation 0) (kept atom)) distinct other_distinct once
      (λ atom inside. let source = from atom ((exact atom).0 inside) in (source.0, (other_exact source.0).1 source.1, source.2)) in
      let sum_is : weight ≡ sum_by atom_weight distinct = is ∙ sum-map atom_weight distinct in
      let other_sum_is : other ≡ sum_by atom_weight other_distinct = other_is ∙ sum-map atom_weight other_distinct in
      omega arith

pub MapsOnto-weight : OntoWeighsNoMore
MapsOnto-weight weights plan other set weight other_weight onto =
    made_weigh_no_more weights (image onto.m) (λ atom. refl) (chosen set plan.body) other.body weight other_weight
    (λ atom inside. Contains-map_from (image onto.m) other.body atom ((onto.onto atom).0 inside))

pub weight_rises : WeightRises
weight_rises weights atoms others weight other among =
    made_weigh_no_more weights (λ atom. atom) (λ atom. refl) atoms others weight other (λ atom inside. (atom, among atom inside, refl))

pub weight_is_one : WeightIsOne
weight_is_one weights atoms weight other is is' =
    let up = weight_rises weights atoms atoms weight other (λ atom h. h) is is' in
    let down = weight_rises weights atoms atoms other weight (λ atom h. h) is' is in
    omega (arith, up, down)

pub weight_is_sum : WeightIsSum
weight_is_sum weights atoms set once = (chosen set atoms, chosen_once set atoms once, λ atom. (λ h. h, λ h. h), refl)

-- ---- a weight exists

-- the items of a list, each once
distinct_of : {A : Type 0} → ((x z : A) → Decided (x ≡ z)) → (xs : List A)
    → (distinct : List A) × AllPairs ◌≢◌ distinct × ((z : A) → Contains distinct z ↔ Contains xs z)
distinct_of same [] = ([], λ i j d l m. absurd (omega (arith, m)), λ z. (λ h. h, λ h. h))
distinct_of {A} same (x ∷ xs) = go (distinct_of same xs)
  where
    go : ((distinct : List A) × AllPairs ◌≢◌ distinct × ((z : A) → Contains distinct z ↔ Contains xs z))
        → (distinct : List A) × AllPairs ◌≢◌ distinct × ((z : A) → Contains distinct z ↔ Contains (x ∷ xs) z)
    go rest = at (decided_below (λ k. get_or rest.0 k x ≡ x) (length rest.0) (λ k l. same (get_or rest.0 k x) x))
      where
        at : Decided (Contains rest.0 x) → (distinct : List A) × AllPairs ◌≢◌ distinct × ((z : A) → Contains distinct z ↔ Contains (x ∷ xs) z)
        at (inl there) = (
          rest.0,
          rest.1,
          λ z. (
            λ h. Contains-rest x xs z ((rest.2 z).0 h),
            λ h. elim (Contains-cases x xs z h) [ inl e ↦ subst (Contains rest.0) e there | inr later ↦ (rest.2 z).1 later ],
          ),
        )
        at (inr absent) = (
          x ∷ rest.0,
          pairs_cons ◌≢◌ x rest.0 (λ z h e. absent (subst (Contains rest.0) (sym e) h)) rest.1,
          λ z. (
            λ h. elim (Contains-cases x rest.0 z h)
                [ inl e ↦ subst (Contains (x ∷ xs)) e (Contains-head x xs) | inr later ↦ Contains-rest x xs z ((rest.2 z).0 later) ],
            λ h. elim (Contains-cases x xs z h)
                [ inl e ↦ subst (Contains (x ∷ rest.0)) e (Contains-head x rest.0) | inr later ↦ Contains-rest x rest.0 z ((rest.2 z).1 later) ],
          ),
        )

pub weight_exists : WeightExists
weight_exists weights atoms =
    let found = distinct_of (decided_fact decided_term) atoms in
    (sum (map (λ atom. slice_index_or weights atom.relation 0) found.0), (found.0, found.1, found.2, refl))
