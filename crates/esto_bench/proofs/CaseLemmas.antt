-- The names, the query and the rows of the made case.
use Rattle.std.proofs.Common.{◌≡◌, ◌⊎◌, ◌<◌, ◌≤◌, ◌+◌, ◌-◌, ◌/◌, ◌%◌, ℕ, zero, suc, true, List, [], ◌∷◌, ◌++◌, map, length, Contains, refl, sym, ap, subst, ◌∙◌}
use Rattle.std.proofs.Common.{inl, inr, arith, lit<, lit≤}
use Rattle.std.specs.Prelude.{codes}
use Rattle.std.specs.Fmt.{decimal}
use Rattle.std.proofs.lemmas.Fmt.{decimal_digit, decimal_injective, decimal_step}
use Rattle.esto_mapping.specs.Datasets.{is_name}
use Rattle.esto_query.specs.Soundness.{AreNamed, IsSafe, IsSound}
use Rattle.esto_query.specs.declared.query.Name.{Name}
use Rattle.esto_semantics.specs.Facts.{Mentions}
use Rattle.esto_semantics.specs.Maps.{AreFlat, IsFlat}
use Rattle.esto_semantics.specs.Queries.{ConjunctiveQuery, IsQuery}
use Rattle.esto_semantics.specs.declared.fact.Fact.{Fact}
use Rattle.esto_semantics.proofs.TermLemmas.{Plain-same}
use Rattle.esto_term.specs.declared.term.Term.{Term}
use Rattle.esto_term.specs.declared.term.Term.TheVariants.{Plain}
use Rattle.esto_term.proofs.ListLemmas.{Contains-cases, Contains-head, Contains-map, Contains-nil, Contains-one, Contains-rest}
use Rattle.std.proofs.lemmas.List.{length-map}
use Rattle.std.proofs.lemmas.List.FromFn.{length-range_with_len}
use Rattle.esto_bench.specs.Case.{below, numbered, made_name, made_names, made_view}
use Rattle.esto_bench.proofs.BothLemmas.{below_there, mapped_from}

-- ---- names

-- what holds of each number below fourteen
pub below_fourteen : (P : ℕ → Type 0) → P 0 → P 1 → P 2 → P 3 → P 4 → P 5 → P 6 → P 7 → P 8 → P 9 → P 10 → P 11 → P 12 → P 13
    → (number : ℕ) → number < 14 → P number
below_fourteen P p0 p1 p2 p3 p4 p5 p6 p7 p8 p9 p10 p11 p12 p13 zero less = p0
below_fourteen P p0 p1 p2 p3 p4 p5 p6 p7 p8 p9 p10 p11 p12 p13 (suc zero) less = p1
below_fourteen P p0 p1 p2 p3 p4 p5 p6 p7 p8 p9 p10 p11 p12 p13 (suc (suc zero)) less = p2
below_fourteen P p0 p1 p2 p3 p4 p5 p6 p7 p8 p9 p10 p11 p12 p13 (suc (suc (suc zero))) less = p3
below_fourteen P p0 p1 p2 p3 p4 p5 p6 p7 p8 p9 p10 p11 p12 p13 (suc (suc (suc (suc zero)))) less = p4
below_fourteen P p0 p1 p2 p3 p4 p5 p6 p7 p8 p9 p10 p11 p12 p13 (suc (suc (suc (suc (suc zero))))) less = p5
below_fourteen P p0 p1 p2 p3 p4 p5 p6 p7 p8 p9 p10 p11 p12 p13 (suc (suc (suc (suc (suc (suc zero)))))) less = p6
below_fourteen P p0 p1 p2 p3 p4 p5 p6 p7 p8 p9 p10 p11 p12 p13 (suc (suc (suc (suc (suc (suc (suc zero))))))) less = p7
below_fourteen P p0 p1 p2 p3 p4 p5 p6 p7 p8 p9 p10 p11 p12 p13 (suc (suc (suc (suc (suc (suc (suc (suc zero)))))))) less = p8
below_fourteen P p0 p1 p2 p3 p4 p5 p6 p7 p8 p9 p10 p11 p12 p13 (suc (suc (suc (suc (suc (suc (suc (suc (suc zero))))))))) less = p9
below_fourteen P p0 p1 p2 p3 p4 p5 p6 p7 p8 p9 p10 p11 p12 p13 (suc (suc (suc (suc (suc (suc (suc (suc (suc (suc zero)))))))))) less = p10
below_fourteen P p0 p1 p2 p3 p4 p5 p6 p7 p8 p9 p10 p11 p12 p13 (suc (suc (suc (suc (suc (suc (suc (suc (suc (suc (suc zero))))))))))) less = p11
below_fourteen P p0 p1 p2 p3 p4 p5 p6 p7 p8 p9 p10 p11 p12 p13 (suc (suc (suc (suc (suc (suc (suc (suc (suc (suc (suc (suc zero)))))))))))) less = p12
below_fourteen P p0 p1 p2 p3 p4 p5 p6 p7 p8 p9 p10 p11 p12 p13 (suc (suc (suc (suc (suc (suc (suc (suc (suc (suc (suc (suc (suc zero))))))))))))) less = p13
below_fourteen P p0 p1 p2 p3 p4 p5 p6 p7 p8 p9 p10 p11 p12 p13
    (suc (suc (suc (suc (suc (suc (suc (suc (suc (suc (suc (suc (suc (suc more)))))))))))))) less = absurd (omega (arith, less))

-- numbers of two digits of which the first is 1
teen : (number : ℕ) → 10 ≤ number → number < 20 → decimal number ≡ 49 ∷ (48 + number % 10) ∷ []
teen number least less =
    let tens : number / 10 ≡ 1 = omega arith in
    let digit : decimal (number / 10) ≡ 49 ∷ [] = ap decimal tens ∙ decimal_digit 1 (lit< tt) in
    decimal_step number least (omega (arith, less)) ∙ ap (λ (it : List ℕ). it ++ (48 + number % 10) ∷ []) digit

-- R and a number is a name
pub is_relation_name : (relation : ℕ) → relation < 14 → is_name (numbered (codes "R") relation) ≡ true
is_relation_name relation less = below_fourteen (λ it. is_name (numbered (codes "R") it) ≡ true)
    (one 1 (lit< tt) refl) (one 2 (lit< tt) refl) (one 3 (lit< tt) refl) (one 4 (lit< tt) refl) (one 5 (lit< tt) refl) (one 6 (lit< tt) refl)
    (one 7 (lit< tt) refl) (one 8 (lit< tt) refl) (one 9 (lit< tt) refl) (two_of 10 (lit≤ tt) (lit< tt) refl) (two_of 11 (lit≤ tt) (lit< tt) refl)
    (two_of 12 (lit≤ tt) (lit< tt) refl) (two_of 13 (lit≤ tt) (lit< tt) refl) (two_of 14 (lit≤ tt) (lit< tt) refl) relation less
  where
    one : (number : ℕ) → number < 10 → is_name (82 ∷ (48 + number) ∷ []) ≡ true → is_name (82 ∷ decimal number) ≡ true
    one number low is = subst (λ (it : List ℕ). is_name (82 ∷ it) ≡ true) (sym (decimal_digit number low)) is

    two_of : (number : ℕ) → 10 ≤ number → number < 20 → is_name (82 ∷ 49 ∷ (48 + number % 10) ∷ []) ≡ true → is_name (82 ∷ decimal number) ≡ true
    two_of number least low is = subst (λ (it : List ℕ). is_name (82 ∷ it) ≡ true) (sym (teen number least low)) is

same_rest : (first : ℕ) (rest others : List ℕ) → first ∷ rest ≡ first ∷ others → rest ≡ others
same_rest first rest others same = cc

-- other numbers have other names
pub numbered_apart : (number other : ℕ) → number < 14 → other < 14 → numbered (codes "R") number ≡ numbered (codes "R") other → number ≡ other
numbered_apart number other less other_less same =
    let digits : decimal (number + 1) ≡ decimal (other + 1) = same_rest 82 (decimal (number + 1)) (decimal (other + 1)) same in
    let one : number + 1 ≡ other + 1 = decimal_injective (number + 1) (other + 1) (omega (arith, less)) (omega (arith, other_less)) digits in
    omega (arith, one)

-- ---- views and the query

variable : (number : ℕ) → IsFlat (Plain number)
variable number = inr (number, refl)

two : (first second : Term) (term : Term) → Contains (first ∷ second ∷ []) term → (first ≡ term) ⊎ (second ≡ term)
two first second term inside = elim (Contains-cases first (second ∷ []) term inside) [
  | inl is ↦ inl is
  | inr later ↦ elim (Contains-cases second [] term later) [ inl is ↦ inr is | inr none ↦ absurd (Contains-nil term none) ]
]

pub two_flat : (first second : ℕ) (term : Term) → Contains (Plain first ∷ Plain second ∷ []) term → IsFlat term
two_flat first second term inside = elim (two (Plain first) (Plain second) term inside) [
  | inl is ↦ subst IsFlat is (variable first)
  | inr is ↦ subst IsFlat is (variable second)
]

module _ (relation : ℕ) where
  abbrev view_atom : Fact Term
  view_atom = record { relation = relation; terms = Plain 0 ∷ Plain 1 ∷ [] }

  view_flat : AreFlat (made_view relation).body
  view_flat term (fact, there, inside) =
      two_flat 0 1 term (subst (λ (it : Fact Term). Contains it.terms term) (sym (Contains-one view_atom fact there)) inside)

  view_safe : IsSafe (made_view relation).head (made_view relation).body
  view_safe term inside = inr (view_atom, Contains-head view_atom [], inside)

  view_named : (names : List Name) → length names ≡ 2 → AreNamed names (made_view relation).body
  view_named names many variable (fact, there, inside) =
      let here = subst (λ (it : Fact Term). Contains it.terms (Plain variable)) (sym (Contains-one view_atom fact there)) inside in
      elim (two (Plain 0) (Plain 1) (Plain variable) here) [
        | inl is ↦ let same = Plain-same 0 variable is in omega (arith, many, same)
        | inr is ↦ let same = Plain-same 1 variable is in omega (arith, many, same)
      ]

  pub view_sound : (head : List Term) (body : List (Fact Term)) (names : List Name) → head ≡ (made_view relation).head → body ≡ (made_view relation).body
      → length names ≡ 2 → IsSound head body names
  view_sound head body names head_is body_is many = record {
    query = record {
      has_head = λ none. let clash : (made_view relation).head ≡ [] = sym head_is ∙ none in cc;
      has_body = λ none. let clash : (made_view relation).body ≡ [] = sym body_is ∙ none in cc;
      flat_head = λ term inside. two_flat 0 1 term (subst (λ it. Contains it term) head_is inside);
      flat_body = subst AreFlat (sym body_is) view_flat;
      safe = subst (λ it. IsSafe it body) (sym head_is) (subst (IsSafe (made_view relation).head) (sym body_is) view_safe);
    };
    named = subst (AreNamed names) (sym body_is) (view_named names many);
  }

-- a query that chains atoms, of which the one of a number is over a relation of its own
abbrev pub chain_atom : (ℕ → ℕ) → ℕ → Fact Term
chain_atom relation_of number = record { relation = relation_of number; terms = Plain number ∷ Plain (number + 1) ∷ [] }

abbrev pub chain : (ℕ → ℕ) → ℕ → ConjunctiveQuery
chain relation_of size = record { head = Plain 0 ∷ Plain size ∷ []; body = map (chain_atom relation_of) (below size) }

module _ (relation_of : ℕ → ℕ) (size : ℕ) (some : 0 < size) where
  abbrev query : ConjunctiveQuery
  query = chain relation_of size

  atom_there : (number : ℕ) → number < size → Contains query.body (chain_atom relation_of number)
  atom_there number less = Contains-map (chain_atom relation_of) (below size) number (below_there size number less)

  query_flat : AreFlat query.body
  query_flat term (fact, there, inside) =
      let found = mapped_from (chain_atom relation_of) size fact there in
      two_flat found.0 (found.0 + 1) term (subst (λ (it : Fact Term). Contains it.terms term) found.2 inside)

  last_there : (term : Term) → Plain size ≡ term → Mentions query.body term
  last_there term is =
      let last : size - 1 + 1 ≡ size = omega (arith, some) in (
        chain_atom relation_of (size - 1),
        atom_there (size - 1) (omega (arith, some)),
        subst (Contains (Plain (size - 1) ∷ Plain (size - 1 + 1) ∷ [])) (ap Plain last ∙ is)
            (Contains-rest (Plain (size - 1)) (Plain (size - 1 + 1) ∷ []) (Plain (size - 1 + 1)) (Contains-head (Plain (size - 1 + 1)) [])),
      )

  query_safe : IsSafe query.head query.body
  query_safe term inside = elim (two (Plain 0) (Plain size) term inside) [
    | inl is ↦ inr (
      chain_atom relation_of 0,
      atom_there 0 some,
      subst (Contains (Plain 0 ∷ Plain (0 + 1) ∷ [])) is (Contains-head (Plain 0) (Plain (0 + 1) ∷ [])),
    )
    | inr is ↦ inr (last_there term is)
  ]

  named_below : (names : List Name) → names ≡ made_names size → length names ≡ size + 1
  named_below names names_are =
      ap length names_are ∙ length-map (below (size + 1)) made_name ∙ length-range_with_len 0 (size + 1)

  query_named : (names : List Name) → names ≡ made_names size → AreNamed names query.body
  query_named names names_are variable (fact, there, inside) =
      let found = mapped_from (chain_atom relation_of) size fact there in
      let many = named_below names names_are in
      elim (two (Plain found.0) (Plain (found.0 + 1)) (Plain variable) (subst (λ (it : Fact Term). Contains it.terms (Plain variable)) found.2 inside)) [
        | inl is ↦ let same = Plain-same found.0 variable is in omega (arith, many, same, found.1)
        | inr is ↦ let same = Plain-same (found.0 + 1) variable is in omega (arith, many, same, found.1)
      ]

  -- it is a query
  pub chain_is : IsQuery query
  chain_is = record {
    has_head = λ none. cc;
    has_body = λ none. Contains-nil (chain_atom relation_of 0) (subst (λ it. Contains it (chain_atom relation_of 0)) none (atom_there 0 some));
    flat_head = λ term inside. two_flat 0 size term inside;
    flat_body = query_flat;
    safe = query_safe;
  }

  pub chain_sound : (head : List Term) (body : List (Fact Term)) (names : List Name) → head ≡ query.head → body ≡ query.body → names ≡ made_names size
      → IsSound head body names
  chain_sound head body names head_is body_is names_are = record {
    query = subst IsQuery (λ i. record { head = sym head_is i; body = sym body_is i }) chain_is;
    named = subst (AreNamed names) (sym body_is) (query_named names names_are);
  }
