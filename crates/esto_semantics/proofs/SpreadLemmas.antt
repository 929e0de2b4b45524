-- An expansion of a query over fragments that fits the views: each inner term of a view goes to a variable of its own, above all
-- variables of the query.
use Rattle.std.proofs.Common.{◌≡◌, ◌≢◌, inl, inr, zero, suc, ℕ, ◌<◌, ◌≤◌, ◌+◌, Bool, true, false, cond, List, [], ◌∷◌, ◌++◌, map, length, slice_get, Contains}
use Rattle.std.proofs.Common.{Option, Some, None, refl, sym, ap, ◌∙◌, subst, arith}
use Rattle.std.specs.List.{AllPairs}
use Rattle.std.proofs.lemmas.Bool.{cases_order}
use Rattle.std.proofs.lemmas.List.Elements.{Contains-append_cases, Contains-append_left, Contains-append_right}
use Rattle.std.proofs.lemmas.Option.{slice_get_within}
use Rattle.esto_term.specs.declared.term.Term.{Term, out-Term}
use Rattle.esto_term.specs.declared.term.Term.TheOpen.{Term-F}
use Rattle.esto_term.specs.declared.term.Term.TheVariants.{Const, Plain, outs-Plain}
use Rattle.esto_semantics.specs.Expansions.{IsInner, IsOfQuery, IsExpansion, IsViewFor, FitsViews}
use Rattle.esto_semantics.specs.Facts.{image, terms_of}
use Rattle.esto_semantics.specs.Maps.{IsConstant}
use Rattle.esto_semantics.specs.Queries.{ConjunctiveQuery}
use Rattle.esto_semantics.specs.declared.fact.Fact.{Fact}
use Rattle.esto_semantics.proofs.CanonicalLemmas.{query_terms, Mentions-terms_of}
use Rattle.esto_semantics.proofs.JoinLemmas.{below_cases}
use Rattle.esto_term.specs.Order.{same_term}
use Rattle.esto_semantics.proofs.TermLemmas.{Const-apart-Plain, Plain-same, same_term-Decides, constant_text, constant_text-told, constant_text-Const}
use Rattle.esto_term.proofs.DistinctLemmas.{distinct_head, distinct_rest}
use Rattle.esto_term.proofs.ListLemmas.{Contains-at, Contains-cases, Contains-head, Contains-map, Contains-map_from, Contains-nil, Contains-rest, map_agree}

-- ---- a number above all variables of a list

abbrev number_step : Term-F Term → ℕ
number_step (Term-F.Const _) = 0
number_step (Term-F.Plain number) = suc number
number_step (Term-F.Made _ _ _) = 0

-- above the number of each variable of the list
abbrev above_all : List Term → ℕ
above_all [] = 0
above_all (first ∷ rest) = number_step (out-Term first) + above_all rest

above_all-Contains : (terms : List Term) (number : ℕ) → Contains terms (Plain number) → number < above_all terms
above_all-Contains [] number inside = absurd (Contains-nil (Plain number) inside)
above_all-Contains (first ∷ rest) number inside = elim (Contains-cases first rest (Plain number) inside) [
  | inl is ↦ let own : number_step (out-Term first) ≡ suc number = ap (λ it. number_step (out-Term it)) is ∙ ap number_step (outs-Plain number) in omega arith
  | inr later ↦ let less = above_all-Contains rest number later in omega arith
]

-- ---- the place of a term

abbrev place_in : List Term → Term → ℕ
place_in [] term = 0
place_in (first ∷ rest) term = cond (same_term first term) 0 (suc (place_in rest term))

place_in-at : (terms : List Term) (term : Term) → Contains terms term → slice_get terms (place_in terms term) ≡ Some term
place_in-at [] term inside = absurd (Contains-nil term inside)
place_in-at (first ∷ rest) term inside = by (place_in-at rest term) (same_term first term) refl
  where
    by : (Contains rest term → slice_get rest (place_in rest term) ≡ Some term) → (answer : Bool) → same_term first term ≡ answer
        → slice_get (first ∷ rest) (cond answer 0 (suc (place_in rest term))) ≡ Some term
    by later true told = ap Some ((same_term-Decides first term).0 told)
    by later false told = elim (Contains-cases first rest term inside) [
      | inl is ↦ let wrong : true ≡ false = sym ((same_term-Decides first term).1 is) ∙ told in cc
      | inr further ↦ later further
    ]

-- ---- one number for each term of each list

module _ (base : ℕ) (terms : ℕ → List Term) where
  abbrev start : ℕ → ℕ
  start zero = base
  start (suc number) = start number + length (terms number)

  start-rises : (number other : ℕ) → number < other → start number + length (terms number) ≤ start other
  start-rises number zero less = absurd (omega arith)
  start-rises number (suc other) less = elim (below_cases number other less) [
    | inl is ↦ let same : start number + length (terms number) ≡ start other + length (terms other) = ap (λ it. start it + length (terms it)) is in omega arith
    | inr earlier ↦ let so_far = start-rises number other earlier in omega arith
  ]

  start-above : (number : ℕ) → base ≤ start number
  start-above zero = omega arith
  start-above (suc number) = let so_far = start-above number in omega arith

  abbrev code : ℕ → Term → ℕ
  code number term = start number + place_in (terms number) term

  code-before : (number other : ℕ) (term other_term : Term) → number < other → Contains (terms number) term → code number term ≡ code other other_term → ⊥
  code-before number other term other_term less inside same =
      let within = slice_get_within (terms number) (place_in (terms number) term) term (place_in-at (terms number) term inside) in
      let rises = start-rises number other less in
      omega arith

  code-same : (number other : ℕ) (term other_term : Term) → Contains (terms number) term → Contains (terms other) other_term
      → code number term ≡ code other other_term → (number ≡ other) × (term ≡ other_term)
  code-same number other term other_term inside other_inside same = elim (cases_order number other) [
    | inl is ↦
        let start_same : start number ≡ start other = ap start is in
        let places : place_in (terms number) term ≡ place_in (terms other) other_term = omega arith in
        let found : ◌≡◌ {A = Option Term} (slice_get (terms number) (place_in (terms number) term))
        (slice_get (terms other) (place_in (terms other) other_term)) =
        λ i. slice_get (terms (is i)) (places i) in
        let both : Some term ≡ Some other_term = sym (place_in-at (terms number) term inside) ∙ found ∙ place_in-at (terms other) other_term other_inside in
        (is, cc)
    | inr unequal ↦ elim unequal [
      | inl less ↦ absurd (code-before number other term other_term less inside same)
      | inr more ↦ absurd (code-before other number other_term term more other_inside (sym same))
    ]
  ]

-- ---- the terms of a head, sent to a row

cond_apart : (first term goes otherwise : Term) → (first ≡ term → ⊥) → cond (same_term first term) goes otherwise ≡ otherwise
cond_apart first term goes otherwise apart = by (same_term first term) refl
  where
    by : (answer : Bool) → same_term first term ≡ answer → cond answer goes otherwise ≡ otherwise
    by true told = absurd (apart ((same_term-Decides first term).0 told))
    by false told = refl

abbrev head_or : List Term → List Term → Term → Term → Term
head_or [] row term otherwise = otherwise
head_or (first ∷ rest) [] term otherwise = otherwise
head_or (first ∷ rest) (goes ∷ others) term otherwise = cond (same_term first term) goes (head_or rest others term otherwise)

head_or-outside : (head row : List Term) (term otherwise : Term) → (Contains head term → ⊥) → head_or head row term otherwise ≡ otherwise
head_or-outside [] row term otherwise outside = refl
head_or-outside (first ∷ rest) [] term otherwise outside = refl
head_or-outside (first ∷ rest) (goes ∷ others) term otherwise outside =
    cond_apart first term goes (head_or rest others term otherwise) (λ is. outside (subst (Contains (first ∷ rest)) is (Contains-head first rest)))
    ∙ head_or-outside rest others term otherwise (λ inside. outside (Contains-rest first rest term inside))

head_or-map : (head row : List Term) (otherwise : Term → Term) → AllPairs {X = Term} ◌≢◌ head → length head ≡ length row
    → map (λ term. head_or head row term (otherwise term)) head ≡ row
head_or-map [] [] otherwise distinct lengths = refl
head_or-map [] (goes ∷ others) otherwise distinct lengths = absurd (omega arith)
head_or-map (first ∷ rest) [] otherwise distinct lengths = absurd (omega arith)
head_or-map (first ∷ rest) (goes ∷ others) otherwise distinct lengths =
    let here : cond (same_term first first) goes (head_or rest others first (otherwise first)) ≡ goes =
    ap (λ answer. cond answer goes (head_or rest others first (otherwise first))) ((same_term-Decides first first).1 refl) in
    let later : map (λ term. cond (same_term first term) goes (head_or rest others term (otherwise term))) rest ≡ others =
    map_agree (λ term. cond (same_term first term) goes (head_or rest others term (otherwise term))) (λ term. head_or rest others term (otherwise term)) rest
    (λ term inside. cond_apart first term goes (head_or rest others term (otherwise term)) (distinct_head first rest term distinct inside))
    ∙ head_or-map rest others otherwise (distinct_rest first rest distinct) (omega arith) in
    λ i. here i ∷ later i

no_text : (term : Term) → (IsConstant term → ⊥) → constant_text term ≡ None
no_text term no_constant = by (constant_text term) refl
  where
    by : (found : Option (List ℕ)) → constant_text term ≡ found → found ≡ None
    by (Some text) told = absurd (no_constant (text, sym (constant_text-told term text told)))
    by None told = refl

-- ---- the expansion

abbrev terms_of_row : Option (Fact Term) → List Term
terms_of_row (Some atom) = atom.terms
terms_of_row None = []

module _ (views : List ConjunctiveQuery) (query : ConjunctiveQuery) (fits : FitsViews views query) where
  abbrev IsFragmentOf : Fact Term → ConjunctiveQuery → Type 0
  IsFragmentOf atom view = (slice_get views atom.relation ≡ Some view) × IsViewFor view atom

  fragment : (number : ℕ) → (view : ConjunctiveQuery) × ((atom : Fact Term) → slice_get query.body number ≡ Some atom → IsFragmentOf atom view)
  fragment number = by (slice_get query.body number) refl
    where
      by : (found : Option (Fact Term)) → slice_get query.body number ≡ found
          → (view : ConjunctiveQuery) × ((atom : Fact Term) → slice_get query.body number ≡ Some atom → IsFragmentOf atom view)
      by (Some atom) told =
          let found = fits atom (Contains-at query.body number atom told) in
          (found.0, λ same at. let is : atom ≡ same = cc in subst (λ it. IsFragmentOf it found.0) is (found.1, found.2))
      by None told = (query, λ atom at. absurd (cc))

  abbrev view : ℕ → ConjunctiveQuery
  view number = (fragment number).0

  abbrev terms : ℕ → List Term
  terms number = terms_of (view number).body

  abbrev base : ℕ
  base = above_all (query_terms query)

  abbrev spread_step : ℕ → Term → Option (List ℕ) → Term
  spread_step number term (Some text) = term
  spread_step number term None = head_or (view number).head (terms_of_row (slice_get query.body number)) term (Plain (code base terms number term))

  -- a constant stays, a term of the view's head goes to the atom's term at its place, and each other to a variable of its own
  abbrev spread : ℕ → Term → Term
  spread number term = spread_step number term (constant_text term)

  spread-head : (number : ℕ) (atom : Fact Term) → slice_get query.body number ≡ Some atom → map (spread number) (view number).head ≡ atom.terms
  spread-head number atom at =
      let is_view = ((fragment number).1 atom at).1 in
      let row : terms_of_row (slice_get query.body number) ≡ atom.terms = ap terms_of_row at in
      map_agree (spread number) (λ term. head_or (view number).head (terms_of_row (slice_get query.body number)) term (Plain (code base terms number term)))
      (view number).head
      (λ term inside. ap (spread_step number term)
      (no_text term (λ (text, is). let plain = is_view.variables term inside in Const-apart-Plain text plain.0 (sym is ∙ plain.1))))
      ∙ head_or-map (view number).head (terms_of_row (slice_get query.body number)) (λ term. Plain (code base terms number term)) is_view.distinct
      (is_view.same_length ∙ ap length (sym row))
      ∙ row

  spread-inner : (number : ℕ) (term : Term) → IsInner (view number) term → spread number term ≡ Plain (code base terms number term)
  spread-inner number term inner =
      ap (spread_step number term) (no_text term inner.no_constant)
      ∙ head_or-outside (view number).head (terms_of_row (slice_get query.body number)) term (Plain (code base terms number term)) inner.not_in_head

  of_query-below : (number : ℕ) → IsOfQuery query (Plain number) → number < base
  of_query-below number (inl mentioned) =
      above_all-Contains (query_terms query) number
      (Contains-append_left (terms_of query.body) query.head (Plain number) (Mentions-terms_of query.body (Plain number) mentioned))
  of_query-below number (inr in_head) =
      above_all-Contains (query_terms query) number (Contains-append_right (terms_of query.body) query.head (Plain number) in_head)

  spread-outside : (number : ℕ) (term : Term) → IsInner (view number) term → IsOfQuery query (spread number term) → ⊥
  spread-outside number term inner of_query =
      let less = of_query-below (code base terms number term) (subst (IsOfQuery query) (spread-inner number term inner) of_query) in
      let above = start-above base terms number in
      omega arith

  spread-apart : (number other : ℕ) (term other_term : Term) → IsInner (view number) term → IsInner (view other) other_term
      → spread number term ≡ spread other other_term
      → (number ≡ other) × (term ≡ other_term)
  spread-apart number other term other_term inner other_inner same =
      code-same base terms number other term other_term (Mentions-terms_of (view number).body term inner.in_body)
      (Mentions-terms_of (view other).body other_term other_inner.in_body)
      (Plain-same (code base terms number term) (code base terms other other_term)
      (sym (spread-inner number term inner) ∙ same ∙ spread-inner other other_term other_inner))

  abbrev facts_below : ℕ → List (Fact Term)
  facts_below zero = []
  facts_below (suc number) = facts_below number ++ map (image (spread number)) (view number).body

  abbrev IsBelow : ℕ → Fact Term → Type 0
  IsBelow count fact = (number : ℕ) × (number < count) × ((part : Fact Term) × Contains (view number).body part × (image (spread number) part ≡ fact))

  facts_below-from : (count : ℕ) (fact : Fact Term) → Contains (facts_below count) fact → IsBelow count fact
  facts_below-from zero fact inside = absurd (Contains-nil fact inside)
  facts_below-from (suc count) fact inside = elim (Contains-append_cases (facts_below count) (map (image (spread count)) (view count).body) fact inside) [
    | inl earlier ↦ let found = facts_below-from count fact earlier in (found.0, omega (arith, found.1), found.2)
    | inr last ↦ (count, omega arith, Contains-map_from (image (spread count)) (view count).body fact last)
  ]

  facts_below-has : (count : ℕ) (fact : Fact Term) → IsBelow count fact → Contains (facts_below count) fact
  facts_below-has zero fact (number, below, part) = absurd (omega arith)
  facts_below-has (suc count) fact (number, below, (part, inside, is)) = elim (below_cases number count below) [
    | inl last ↦ Contains-append_right (facts_below count) (map (image (spread count)) (view count).body) fact
        (subst (λ it. Contains (map (image (spread it)) (view it).body) fact) last
        (subst (Contains (map (image (spread number)) (view number).body)) is (Contains-map (image (spread number)) (view number).body part inside)))
    | inr earlier ↦ Contains-append_left (facts_below count) (map (image (spread count)) (view count).body) fact
        (facts_below-has count fact (number, earlier, (part, inside, is)))
  ]

  pub an_expansion : (expansion : List (Fact Term)) × IsExpansion views query expansion
  an_expansion = (
    facts_below (length query.body),
    record {
      view = view;
      spread = spread;
      has_view = λ number atom at. ((fragment number).1 atom at).0;
      keeps = λ number text. ap (spread_step number (Const text)) (constant_text-Const text);
      head = spread-head;
      variable = λ number term below inner. (code base terms number term, spread-inner number term inner);
      outside = λ number term below inner of_query. spread-outside number term inner of_query;
      apart = λ number other term other_term below other_below inner other_inner same. spread-apart number other term other_term inner other_inner same;
      facts = λ fact. (facts_below-from (length query.body) fact, facts_below-has (length query.body) fact);
    },
  )
