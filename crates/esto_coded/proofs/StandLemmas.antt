-- Codes that stand for terms, and rows of codes that stand for facts.
use Rattle.std.proofs.Common.{◌≡◌, ◌≢◌, ◌⊎◌, inl, inr, ℕ, ◌+◌, ◌≤◌, ◌<◌, List, [], ◌∷◌, ◌++◌, map, length, get_or, take, Some, slice_get, Contains, refl, sym}
use Rattle.std.proofs.Common.{ap, ◌∙◌, subst, arith, ◌==◌, Bool, true, false, cond}
use Rattle.std.specs.Prelude.{AllPairs}
use Rattle.std.specs.List.{AllZip}
use Rattle.std.proofs.lemmas.Bool.{cases_eq}
use Rattle.std.proofs.lemmas.Bool.Decides.{Decides-eqb}
use Rattle.std.proofs.lemmas.List.{append-nil, append_assoc}
use Rattle.std.proofs.lemmas.List.Elements.{Contains-append_left, Contains-append_right, Contains-append_cases, filter-append}
use Rattle.std.proofs.lemmas.Option.{same_Some, slice_get_within}
use Rattle.esto_columns.specs.Interned.{Grows, AreCodedRows}
use Rattle.esto_relmodel.specs.RowFacts.{row_fact}
use Rattle.esto_semantics.specs.declared.fact.Fact.{Fact}
use Rattle.esto_term.specs.declared.term.Term.{Term}
use Rattle.esto_term.specs.declared.term.Term.TheVariants.{Const, Plain}
use Rattle.esto_term.proofs.ListLemmas.{at_left, Contains-filter, Contains-filter_from, Contains-head, Contains-rest}
use Rattle.esto_term.proofs.PlaceLemmas.{one_place, take-item}
use Rattle.esto_term.proofs.ZipLemmas.{zip_weaker, zip_append, zip_left, zip_right}
use Rattle.esto_coded.specs.Coded.{Coded, IsCodeOf, AreCodesOf, OrderedStand, StandFor, StandInOrder, facts_over, rows_in}
use Rattle.esto_coded.specs.declared.coded.TheConstants.{FIRST_NODE}

-- ---- texts that come after the old ones

module _ (old new : List (List ℕ)) (grown : Grows old new) where
  pub code_grows : (term : Term) (code : ℕ) → IsCodeOf old term code → IsCodeOf new term code
  code_grows term code is = elim is [
    | inl text ↦ inl (text.0, text.1, ap (λ them. slice_get them code) grown.1 ∙ at_left old grown.0 code text.0 text.2)
    | inr node ↦ inr node
  ]

  pub codes_grow : (terms : List Term) (codes : List ℕ) → AreCodesOf old terms codes → AreCodesOf new terms codes
  codes_grow terms codes are = zip_weaker (IsCodeOf old) (IsCodeOf new) terms codes (λ term code inside is. code_grows term code is) are

  -- one more term and its code
  pub codes_more : (terms : List Term) (codes : List ℕ) (term : Term) (code : ℕ) → AreCodesOf old terms codes → IsCodeOf new term code
      → AreCodesOf new (terms ++ term ∷ []) (codes ++ code ∷ [])
  codes_more terms codes term code are is = zip_append (IsCodeOf new) terms (term ∷ []) codes (code ∷ []) (codes_grow terms codes are) (is, tt)

pub codes_same : (texts : List (List ℕ)) (terms others : List Term) (codes more : List ℕ) → terms ≡ others → more ≡ codes → AreCodesOf texts terms codes
    → AreCodesOf texts others more
codes_same texts terms others codes more same is are = subst (λ them. AreCodesOf texts them more) same (subst (AreCodesOf texts terms) (sym is) are)

-- the same rows stand for the same facts
pub stand_grow : (old new : Coded) (facts : List (Fact Term)) → Grows old.texts new.texts → new.relations ≡ old.relations → StandFor old facts
    → StandFor new facts
stand_grow old new facts grown same stand = record {
  has = λ fact inside. let own = stand.has fact inside in (
    own.0,
    codes_grow old.texts new.texts grown fact.terms own.0 own.1,
    subst (λ them. Contains (rows_in them fact.relation) own.0) (sym same) own.2,
  );
  only = λ relation codes inside.
      let own = stand.only relation codes (subst (λ them. Contains (rows_in them relation) codes) same inside) in
      (own.0, own.1, own.2, codes_grow old.texts new.texts grown own.0.terms codes own.3);
}

-- the codes are those of the terms of the fact
abbrev pub IsFactRow : List (List ℕ) → Fact Term → List ℕ → Type 0
IsFactRow texts = λ (fact : Fact Term) (codes : List ℕ). AreCodesOf texts fact.terms codes

-- and so in order
pub order_grow : (old new : Coded) (facts : List (Fact Term)) → Grows old.texts new.texts → new.relations ≡ old.relations → StandInOrder old facts
    → StandInOrder new facts
order_grow old new facts grown same stand relation =
    subst (λ them. AllZip (IsFactRow new.texts) (facts_over relation facts) (rows_in them relation)) (sym same)
    (zip_weaker (IsFactRow old.texts) (IsFactRow new.texts) (facts_over relation facts) (rows_in old.relations relation)
    (λ fact codes inside are. codes_grow old.texts new.texts grown fact.terms codes are) (stand relation))

-- in order they stand for the facts too
pub ordered_stand : OrderedStand
ordered_stand coded facts stand = record {
  has = λ fact inside.
      let own = zip_left (IsFactRow coded.texts) (facts_over fact.relation facts) (rows_in coded.relations fact.relation) (stand fact.relation) fact
      (Contains-filter (λ (it : Fact Term). it.relation == fact.relation) facts fact inside ((Decides-eqb fact.relation fact.relation).1 refl)) in
      (own.0, own.2, own.1);
  only = λ relation codes inside.
      let own = zip_right (IsFactRow coded.texts) (facts_over relation facts) (rows_in coded.relations relation) (stand relation) codes inside in
      let from = Contains-filter_from (λ (it : Fact Term). it.relation == relation) facts own.0 own.1 in
      (own.0, from.0, (Decides-eqb own.0.relation relation).0 from.1, own.2);
}

-- ---- a code tells its term, and a term its code

pub one_term : (texts : List (List ℕ)) → length texts ≤ FIRST_NODE → (term other : Term) (code : ℕ) → IsCodeOf texts term code → IsCodeOf texts other code
    → term ≡ other
one_term texts few term other code is also = elim is [
  | inl text ↦ elim also [
    | inl next ↦ text.1 ∙ ap Const (same_Some text.0 next.0 (sym text.2 ∙ next.2)) ∙ sym next.1
    | inr node ↦ absurd (let below = slice_get_within texts code text.0 text.2 in let past = node.2 in omega (arith, below, past, few))
  ]
  | inr node ↦ elim also [
    | inl text ↦ absurd (let below = slice_get_within texts code text.0 text.2 in let past = node.2 in omega (arith, below, past, few))
    | inr next ↦
        let one = node.2 in let other_one = next.2 in
        let same : node.0 ≡ next.0 = omega (arith, one, other_one) in node.1 ∙ ap Plain same ∙ sym next.1
  ]
]

pub one_code : (texts : List (List ℕ)) → AllPairs ◌≢◌ texts → (term : Term) (code other : ℕ) → IsCodeOf texts term code → IsCodeOf texts term other
    → code ≡ other
one_code texts distinct term code other is also = elim is [
  | inl text ↦ elim also [
    | inl next ↦
        let same : text.0 ≡ next.0 = let one = text.1 in let other_one = next.1 in cc in
        one_place texts distinct code other text.0 text.2 (next.2 ∙ ap Some (sym same))
    | inr node ↦ absurd (let one = text.1 in let other_one = node.1 in cc)
  ]
  | inr node ↦ elim also [
    | inl text ↦ absurd (let one = text.1 in let other_one = node.1 in cc)
    | inr next ↦
        let same : node.0 ≡ next.0 = let one = node.1 in let other_one = next.1 in cc in
        node.2 ∙ ap (λ number. FIRST_NODE + number) same ∙ sym next.2
  ]
]

-- so terms have one row of codes
pub one_codes : (texts : List (List ℕ)) → AllPairs ◌≢◌ texts → (terms : List Term) (codes others : List ℕ) → AreCodesOf texts terms codes
    → AreCodesOf texts terms others → codes ≡ others
one_codes texts distinct [] [] [] are also = refl
one_codes texts distinct [] [] (other ∷ others) are also = absurd also
one_codes texts distinct [] (code ∷ codes) others are also = absurd are
one_codes texts distinct (term ∷ terms) [] others are also = absurd are
one_codes texts distinct (term ∷ terms) (code ∷ codes) [] are also = absurd also
one_codes texts distinct (term ∷ terms) (code ∷ codes) (other ∷ others) are also =
    let first = one_code texts distinct term code other are.0 also.0 in
    let rest = one_codes texts distinct terms codes others are.1 also.1 in λ i. first i ∷ rest i

-- ---- rows of codes put into a relation

-- the row of codes is that of the fact, which is over the relation of the number
abbrev pub IsRowFor : List (List ℕ) → ℕ → Fact Term → List ℕ → Type 0
IsRowFor texts number fact codes = (fact.relation ≡ number) × AreCodesOf texts fact.terms codes

-- of facts over one relation all are over it, and none is over another
over_all : (number : ℕ) (facts : List (Fact Term)) → ((fact : Fact Term) → Contains facts fact → fact.relation ≡ number) → facts_over number facts ≡ facts
over_all number [] each = refl
over_all number (fact ∷ rest) each =
    let here : (fact.relation == number) ≡ true = (Decides-eqb fact.relation number).1 (each fact (Contains-head fact rest)) in
    ap (λ it. cond it (fact ∷ facts_over number rest) (facts_over number rest)) here
    ∙ ap (λ them. fact ∷ them) (over_all number rest (λ other inside. each other (Contains-rest fact rest other inside)))

over_none : (other number : ℕ) → other ≢ number → (facts : List (Fact Term)) → ((fact : Fact Term) → Contains facts fact → fact.relation ≡ number)
    → facts_over other facts ≡ []
over_none other number apart [] each = refl
over_none other number apart (fact ∷ rest) each =
    ap (λ it. cond it (fact ∷ facts_over other rest) (facts_over other rest)) (not_here (fact.relation == other) refl)
    ∙ over_none other number apart rest (λ it inside. each it (Contains-rest fact rest it inside))
  where
    not_here : (answer : Bool) → (fact.relation == other) ≡ answer → answer ≡ false
    not_here true told = absurd (apart (sym ((Decides-eqb fact.relation other).0 told) ∙ each fact (Contains-head fact rest)))
    not_here false told = refl

module _ (old new : Coded) (number : ℕ) (added : List (List ℕ)) (grown : Grows old.texts new.texts)
    (here : rows_in new.relations number ≡ rows_in old.relations number ++ added)
    (others : (other : ℕ) → other ≢ number → rows_in new.relations other ≡ rows_in old.relations other) where
  row_kept : (relation : ℕ) (codes : List ℕ) → Contains (rows_in old.relations relation) codes → Contains (rows_in new.relations relation) codes
  row_kept relation codes inside = elim (cases_eq relation number) [
    | inl same ↦ subst (λ it. Contains (rows_in new.relations it) codes) (sym same) (subst (λ them. Contains them codes) (sym here)
        (Contains-append_left (rows_in old.relations number) added codes (subst (λ it. Contains (rows_in old.relations it) codes) same inside)))
    | inr apart ↦ subst (λ them. Contains them codes) (sym (others relation apart)) inside
  ]

  row_cases : (relation : ℕ) (codes : List ℕ) → Contains (rows_in new.relations relation) codes
      → Contains (rows_in old.relations relation) codes ⊎ ((relation ≡ number) × Contains added codes)
  row_cases relation codes inside = elim (cases_eq relation number) [
    | inl same ↦ elim (Contains-append_cases (rows_in old.relations number) added codes
        (subst (λ them. Contains them codes) here (subst (λ it. Contains (rows_in new.relations it) codes) same inside))) [
          | inl before ↦ inl (subst (λ it. Contains (rows_in old.relations it) codes) (sym same) before)
          | inr among ↦ inr (same, among)
        ]
    | inr apart ↦ inl (subst (λ them. Contains them codes) (others relation apart) inside)
  ]

  pub stand_put : (facts more : List (Fact Term)) → AllZip (IsRowFor new.texts number) more added → StandFor old facts → StandFor new (facts ++ more)
  stand_put facts more are stand = record {
    has = λ fact inside. elim (Contains-append_cases facts more fact inside) [
      | inl before ↦ let own = stand.has fact before in
          (own.0, codes_grow old.texts new.texts grown fact.terms own.0 own.1, row_kept fact.relation own.0 own.2)
      | inr among ↦ let own = zip_left (IsRowFor new.texts number) more added are fact among in (
        own.0,
        own.2.1,
        subst (λ it. Contains (rows_in new.relations it) own.0) (sym own.2.0)
            (subst (λ them. Contains them own.0) (sym here) (Contains-append_right (rows_in old.relations number) added own.0 own.1)),
      )
    ];
    only = λ relation codes inside. elim (row_cases relation codes inside) [
      | inl before ↦ let own = stand.only relation codes before in
          (own.0, Contains-append_left facts more own.0 own.1, own.2, codes_grow old.texts new.texts grown own.0.terms codes own.3)
      | inr (same, among) ↦ let own = zip_right (IsRowFor new.texts number) more added are codes among in
          (own.0, Contains-append_right facts more own.0 own.1, own.2.0 ∙ sym same, own.2.1)
    ];
  }

  -- and so in order, each after those that were there
  pub order_put : (facts more : List (Fact Term)) → AllZip (IsRowFor new.texts number) more added → StandInOrder old facts
      → StandInOrder new (facts ++ more)
  order_put facts more are stand relation = subst (λ them. AllZip (IsFactRow new.texts) them (rows_in new.relations relation))
      (sym (filter-append (λ (fact : Fact Term). fact.relation == relation) facts more)) (elim (cases_eq relation number) [
        | inl same ↦ subst (λ it. AllZip (IsFactRow new.texts) (facts_over it facts ++ facts_over it more) (rows_in new.relations it)) (sym same) changed
        | inr apart ↦ unchanged relation apart
      ])
    where
      over : (fact : Fact Term) → Contains more fact → fact.relation ≡ number
      over fact inside = (zip_left (IsRowFor new.texts number) more added are fact inside).2.0

      before : (it : ℕ) → AllZip (IsFactRow new.texts) (facts_over it facts) (rows_in old.relations it)
      before it = zip_weaker (IsFactRow old.texts) (IsFactRow new.texts) (facts_over it facts) (rows_in old.relations it)
          (λ fact codes inside own. codes_grow old.texts new.texts grown fact.terms codes own) (stand it)

      changed : AllZip (IsFactRow new.texts) (facts_over number facts ++ facts_over number more) (rows_in new.relations number)
      changed = subst (AllZip (IsFactRow new.texts) (facts_over number facts ++ facts_over number more)) (sym here)
          (zip_append (IsFactRow new.texts) (facts_over number facts) (facts_over number more) (rows_in old.relations number) added (before number)
          (subst (λ them. AllZip (IsFactRow new.texts) them added) (sym (over_all number more over))
          (zip_weaker (IsRowFor new.texts number) (IsFactRow new.texts) more added (λ fact codes inside own. own.1) are)))

      unchanged : (it : ℕ) → it ≢ number → AllZip (IsFactRow new.texts) (facts_over it facts ++ facts_over it more) (rows_in new.relations it)
      unchanged it apart = subst (AllZip (IsFactRow new.texts) (facts_over it facts ++ facts_over it more)) (sym (others it apart))
          (subst (λ them. AllZip (IsFactRow new.texts) them (rows_in old.relations it))
          (sym (append-nil (facts_over it facts)) ∙ ap (λ them. facts_over it facts ++ them) (sym (over_none it number apart more over))) (before it))

-- the first facts after others, and one more
pub one_more : {X : Type 0} (all facts : List X) (count : ℕ) (fact : X) → count < length facts → fact ≡ get_or facts count fact
    → (all ++ take count facts) ++ fact ∷ [] ≡ all ++ take (count + 1) facts
one_more all facts count fact below is =
    append_assoc all (take count facts) (fact ∷ []) ∙ ap (λ them. all ++ them) (sym (take-item facts count fact below is))

-- ---- rows of texts as facts

pub text_codes : (texts : List (List ℕ)) (codes : List ℕ) (row : List (List ℕ)) → map (slice_get texts) codes ≡ map Some row
    → AreCodesOf texts (map Const row) codes
text_codes texts [] [] are = tt
text_codes texts [] (text ∷ row) are = absurd (cc)
text_codes texts (code ∷ codes) [] are = absurd (cc)
text_codes texts (code ∷ codes) (text ∷ row) are =
    let here : slice_get texts code ≡ Some text = cc in (inl (text, refl, here), text_codes texts codes row (cc))

pub text_rows : (texts : List (List ℕ)) (number : ℕ) (coded : List (List ℕ)) (rows : List (List (List ℕ))) → AreCodedRows texts coded rows
    → AllZip (IsRowFor texts number) (map (row_fact number) rows) coded
text_rows texts number [] [] are = tt
text_rows texts number [] (row ∷ rows) are = absurd (cc)
text_rows texts number (codes ∷ coded) [] are = absurd (cc)
text_rows texts number (codes ∷ coded) (row ∷ rows) are =
    let here : map (slice_get texts) codes ≡ map Some row = cc in ((refl, text_codes texts codes row here), text_rows texts number coded rows (cc))
