-- Each term of a run is made of one stock, and nests no deeper than the rank of its fact's relation.
use Rattle.std.proofs.Common.{◌≡◌, ◌⊎◌, inl, inr, ℕ, ◌<◌, ◌≤◌, List, [], ◌∷◌, map, length, Contains, slice_get, Some, sym, ap, subst, arith}
use Rattle.std.specs.declared.cmp.Ordering.TheVariants.{Less}
use Rattle.std.proofs.lemmas.List.{length-map}
use Rattle.esto_term.specs.Finite.{Stock, IsMadeOf}
use Rattle.esto_term.specs.Finite.IsMadeOf.{constant, made}
use Rattle.esto_term.specs.Nesting.{nesting, nesting_above}
use Rattle.esto_term.specs.Order.{term_cmp, replaced}
use Rattle.esto_term.specs.declared.term.Term.{Term}
use Rattle.esto_term.specs.declared.term.Term.TheVariants.{Const, Plain, Made}
use Rattle.esto_term.proofs.ListLemmas.{Contains-head, Contains-rest, Contains-at, Contains-map, Contains-map_from}
use Rattle.esto_term.proofs.NestingLemmas.{nesting-Made, nesting-Const}
use Rattle.esto_semantics.specs.Facts.{image, Mentions}
use Rattle.esto_semantics.specs.Maps.{Sends, Keeps, AreFlat}
use Rattle.esto_semantics.specs.Queries.{ConjunctiveQuery}
use Rattle.esto_semantics.specs.Rules.{Rule, tuple, equality}
use Rattle.esto_semantics.specs.declared.fact.Fact.{Fact}
use Rattle.esto_semantics.proofs.TermLemmas.{replaced_cases}
use Rattle.esto_chase_laws.specs.Bounds.{RanksRise}
use Rattle.esto_chase_laws.specs.Making.{frontier, extended, made_facts}
use Rattle.esto_chase_laws.proofs.JoinedLemmas.{AreTogether, AreReplaced}
use Rattle.esto_chase_laws.proofs.MakingLemmas.{frontier_body, extended-flat}
use Rattle.esto_chase_laws.proofs.ReplacementLemmas.{nesting-lesser}

-- the stock has what the start and the rules need
pub record Serves (stock : Stock) (width : ℕ) (rules : List Rule) (start : ConjunctiveQuery) : Type 0 where
  pub start_in : (term : Term) → Mentions start.body term → IsMadeOf stock width term
  pub sides : (body : List (Fact Term)) (left right : Term) → Contains rules (equality body left right)
      → (text : List ℕ) → (left ≡ Const text) ⊎ (right ≡ Const text) → Contains stock.texts text
  pub head_texts : (body head : List (Fact Term)) → Contains rules (tuple body head) → (text : List ℕ) → Mentions head (Const text) → Contains stock.texts text
  pub head_variables : (body head : List (Fact Term)) → Contains rules (tuple body head)
      → (variable : ℕ) → Mentions head (Plain variable) → Contains stock.variables variable
  pub numbers : (number : ℕ) (rule : Rule) → slice_get rules number ≡ Some rule → Contains stock.rules number
  pub widths : (body head : List (Fact Term)) → Contains rules (tuple body head) → length (frontier body head) ≤ width

-- the term is made of the stock, and nests within the bound
abbrev pub IsLow : Stock → ℕ → ℕ → Term → Type 0
IsLow stock width bound term = IsMadeOf stock width term × (nesting term ≤ bound)

-- each term of a fact is made of the stock, and nests no deeper than the rank of the fact's relation
abbrev pub AreLow : Stock → ℕ → (ℕ → ℕ) → List (Fact Term) → Type 0
AreLow stock width rank facts =
    (fact : Fact Term) → Contains facts fact → (term : Term) → Contains fact.terms term → IsLow stock width (rank fact.relation) term

pub above_le : (values : List Term) (bound : ℕ) → ((term : Term) → Contains values term → nesting term < bound) → nesting_above (map nesting values) ≤ bound
above_le [] bound below = omega arith
above_le (first ∷ rest) bound below =
    let here = below first (Contains-head first rest) in
    let later = above_le rest bound (λ term inside. below term (Contains-rest first rest term inside)) in
    omega arith

module _ (stock : Stock) (width : ℕ) (rank : ℕ → ℕ) (facts : List (Fact Term)) (low : AreLow stock width rank facts) where
  -- a term that stands in an image of an atom is low where the images of the atom's terms are
  images_low : (m : Term → Term) (atoms : List (Fact Term))
      → ((atom : Fact Term) → Contains atoms atom → (term : Term) → Contains atom.terms term → IsLow stock width (rank atom.relation) (m term))
      → AreLow stock width rank (map (image m) atoms)
  images_low m atoms each fact inside term within =
      let from = Contains-map_from (image m) atoms fact inside in
      let old = Contains-map_from m from.0.terms term (subst (λ (it : Fact Term). Contains it.terms term) (sym from.2) within) in
      subst (λ (it : Fact Term). IsLow stock width (rank it.relation) term) from.2
      (subst (IsLow stock width (rank from.0.relation)) old.2 (each from.0 from.1 old.0 old.1))

  -- ---- a merge

  module _ (from to : Term) (lesser : term_cmp to from ≡ Less) (to_made : IsMadeOf stock width to) where
    replaced_low : (bound : ℕ) (term : Term) → IsLow stock width bound term → IsLow stock width bound (replaced from to term)
    replaced_low bound term is = elim (replaced_cases from to term) [
      | inl at ↦
          let depth = nesting-lesser to from lesser in
          subst (IsLow stock width bound) (sym at.1) (to_made, omega (arith, is.1, depth, ap nesting at.0))
      | inr apart ↦ subst (IsLow stock width bound) (sym apart.1) is
    ]

    pub AreLow-merged : (next : List (Fact Term)) → AreReplaced from to facts next → AreLow stock width rank next
    AreLow-merged next same fact inside =
        images_low (replaced from to) facts (λ old there term within. replaced_low (rank old.relation) term (low old there term within))
        fact (same.back fact inside)

  -- ---- a tuple rule's step

  module _ (rules : List Rule) (start : ConjunctiveQuery) (serves : Serves stock width rules start) (rise : RanksRise rules rank)
      (number : ℕ) (body head : List (Fact Term)) (m : Term → Term) (flat_head : AreFlat head)
      (rule : slice_get rules number ≡ Some (tuple body head)) (keeps : Keeps Const m) (sends : Sends m body facts) where
    abbrev values : List Term
    values = map m (frontier body head)

    has_rule : Contains rules (tuple body head)
    has_rule = Contains-at rules number (tuple body head) rule

    abbrev IsBelow : ℕ → Term → Type 0
    IsBelow bound term = IsMadeOf stock width term × (nesting term < bound)

    body_low : (atom : Fact Term) → Contains head atom → (term : Term) → Mentions body term → IsBelow (rank atom.relation) (m term)
    body_low atom in_head term (other, in_body, within) =
        let old = low (image m other) (sends other in_body) (m term) (Contains-map m other.terms term within) in
        let up = rise body head has_rule other atom in_body in_head in
        (old.0, omega (arith, old.1, up))

    values_low : (atom : Fact Term) → Contains head atom → (term : Term) → Contains values term → IsBelow (rank atom.relation) term
    values_low atom in_head term inside =
        let from = Contains-map_from m (frontier body head) term inside in
        subst (IsBelow (rank atom.relation)) from.2 (body_low atom in_head from.0 (frontier_body body head from.0 from.1))

    pub values_width : length values ≤ width
    values_width = rw length-map (serves.widths body head has_rule)

    made_low : (atom : Fact Term) → Contains head atom → (term : Term) → Contains atom.terms term
        → IsLow stock width (rank atom.relation) (extended number body head m term)
    made_low atom in_head term within = elim (extended-flat number body head m term keeps (flat_head term (atom, in_head, within))) [
      | inl text ↦
          let inside = serves.head_texts body head has_rule text.0 (atom, in_head, subst (Contains atom.terms) text.1 within) in
          subst (IsLow stock width (rank atom.relation)) (sym text.2) (constant text.0 inside, omega (arith, nesting-Const text.0))
      | inr other ↦ elim other [
        | inl at ↦ let is = body_low atom in_head term at.0 in subst (IsLow stock width (rank atom.relation)) (sym at.1) (is.0, omega (arith, is.1))
        | inr new ↦
            let variable_in = serves.head_variables body head has_rule new.0 (atom, in_head, subst (Contains atom.terms) new.1 within) in
            let is_made : IsMadeOf stock width (Made number new.0 values) =
            made number new.0 values (serves.numbers number (tuple body head) rule) variable_in values_width
            (λ value inside. (values_low atom in_head value inside).0) in
            let deep : nesting_above (map nesting values) ≤ rank atom.relation =
            above_le values (rank atom.relation) (λ value inside. (values_low atom in_head value inside).1) in
            subst (IsLow stock width (rank atom.relation)) (sym new.3)
            (is_made, subst (λ it. it ≤ rank atom.relation) (sym (nesting-Made number new.0 values)) deep)
      ]
    ]

    pub AreLow-added : (next : List (Fact Term)) → AreTogether facts (made_facts number body head m) next → AreLow stock width rank next
    AreLow-added next same fact inside = elim (same.from fact inside) [
      | inl old ↦ low fact old
      | inr new ↦ images_low (extended number body head m) head made_low fact new
    ]
