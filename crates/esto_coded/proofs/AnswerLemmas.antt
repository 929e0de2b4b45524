-- Answers over rows of codes, and answers over the facts that these stand for.
use Rattle.std.proofs.Common.{◌≡◌, ◌==◌, ◌⊎◌, ◌↔◌, inl, inr, ℕ, ◌+◌, ◌-◌, ◌<◌, ◌≤◌, Bool, true, false, List, [], ◌∷◌, map, length, get_or, Some, None}
use Rattle.std.proofs.Common.{slice_get, Contains, refl, sym, ap, ◌∙◌, subst, arith}
use Rattle.std.proofs.lemmas.Bool.Decides.{Decides-eqb}
use Rattle.std.proofs.lemmas.List.{length-map, get_or_past}
use Rattle.std.proofs.lemmas.Option.{none-some, slice_get_cases, get_or_from_slice_get}
use Rattle.esto_term.specs.declared.term.Term.{Term, out-Term}
use Rattle.esto_term.specs.declared.term.Term.TheOpen.{Term-F}
use Rattle.esto_term.specs.declared.term.Term.TheVariants.{Const, Plain, outs-Const, outs-Plain}
use Rattle.esto_term.proofs.ListLemmas.{Contains-nil, Contains-head, Contains-rest, Contains-map, Contains-map_from, map_at, map_then}
use Rattle.esto_term.proofs.ZipLemmas.{zip_length, zip_right}
use Rattle.esto_semantics.specs.Facts.{image}
use Rattle.esto_semantics.specs.Maps.{IsFixedBy}
use Rattle.esto_semantics.specs.Queries.{ConjunctiveQuery, IsAnswerInto}
use Rattle.esto_semantics.specs.declared.fact.Fact.{Fact}
use Rattle.esto_columns.specs.CodedRows.{CodedRows}
use Rattle.esto_columns.specs.Columns.{HaveLength}
use Rattle.esto_columns.specs.declared.stored.StoredRows.{StoredRows}
use Rattle.esto_steps.specs.Planned.{Fits}
use Rattle.esto_steps.specs.Texts.{IsNumbering, AreInterned, StandsIn}
use Rattle.esto_steps.proofs.CodeLemmas.{code_in, code_stands, code_in_numbers}
use Rattle.esto_steps.proofs.CodedLemmas.{answers_pushed}
use Rattle.esto_steps.proofs.MeaningLemmas.{results_are_answers, plans_intern}
use Rattle.esto_steps.specs.Meaning.{IsResult}
use Rattle.esto_steps.specs.Rows.{IsRowOf, held_by}
use Rattle.esto_steps.specs.declared.steps.Steps.{Steps}
use Rattle.esto_coded.specs.Answered.{AreCodedAnswers}
use Rattle.esto_coded.specs.Coded.{IsCodeOf, AreCodesOf, AreTelling, StandFor, rows_in}
use Rattle.esto_coded.specs.Parted.{term_step, term_of}
use Rattle.esto_coded.specs.Relations.{coded_of}
use Rattle.esto_coded.specs.Whole.{AreWholeSteps, IsOver, IsVain, TellsOver}
use Rattle.esto_coded.specs.declared.coded.TheConstants.{FIRST_NODE}
use Rattle.esto_coded.proofs.WholeLemmas.{steps_of_query}

-- ---- the code of a term, and the term of a code

abbrev code_step : (List ℕ → ℕ) → Term-F Term → ℕ
code_step code (Term-F.Const text) = code text
code_step code (Term-F.Plain node) = FIRST_NODE + node
code_step code (Term-F.Made _ _ _) = 0

abbrev code_of : (List ℕ → ℕ) → Term → ℕ
code_of code term = code_step code (out-Term term)

past_none : (texts : List (List ℕ)) (place : ℕ) → length texts ≤ place → slice_get texts place ≡ None
past_none texts place past = elim (slice_get_cases texts place).1 [
  | inl (text, inside, found, is) ↦ absurd (omega (arith, inside, past))
  | inr (outside, none) ↦ none
]

module _ (texts : List (List ℕ)) (telling : AreTelling texts) where
  abbrev text_code : List ℕ → ℕ
  text_code text = code_in texts text

  numbers : IsNumbering texts text_code
  numbers = code_in_numbers texts telling.distinct

  code_is : (term : Term) (code : ℕ) → IsCodeOf texts term code → code_of text_code term ≡ code
  code_is term code is = elim is [
    | inl (text, same, at) ↦ ap (code_of text_code) same ∙ ap (code_step text_code) (outs-Const text) ∙ numbers code text at
    | inr (node, same, past) ↦ ap (code_of text_code) same ∙ ap (code_step text_code) (outs-Plain node) ∙ sym past
  ]

  codes_are : (terms : List Term) (codes : List ℕ) → AreCodesOf texts terms codes → map (code_of text_code) terms ≡ codes
  codes_are [] [] are = refl
  codes_are [] (code ∷ codes) are = absurd are
  codes_are (term ∷ terms) [] are = absurd are
  codes_are (term ∷ terms) (code ∷ codes) are =
      let first = code_is term code are.0 in let rest = codes_are terms codes are.1 in λ i. first i ∷ rest i

  term_is : (term : Term) (code : ℕ) → IsCodeOf texts term code → term_of texts code ≡ term
  term_is term code is = elim is [
    | inl (text, same, at) ↦ ap (term_step code) at ∙ sym same
    | inr (node, same, past) ↦
        let few = telling.few in
        let none : slice_get texts code ≡ None = past_none texts code (omega (arith, few, past)) in
        let number : code - FIRST_NODE ≡ node = omega (arith, past) in
        ap (term_step code) none ∙ ap Plain number ∙ sym same
  ]

  pub terms_are : (terms : List Term) (codes : List ℕ) → AreCodesOf texts terms codes → map (term_of texts) codes ≡ terms
  terms_are [] [] are = refl
  terms_are [] (code ∷ codes) are = absurd are
  terms_are (term ∷ terms) [] are = absurd are
  terms_are (term ∷ terms) (code ∷ codes) are =
      let first = term_is term code are.0 in let rest = terms_are terms codes are.1 in λ i. first i ∷ rest i

  -- codes each of which stands for a term stand for the terms of them
  codes_stand : (codes : List ℕ) → ((code : ℕ) → Contains codes code → (term : Term) × IsCodeOf texts term code)
      → AreCodesOf texts (map (term_of texts) codes) codes
  codes_stand [] each = tt
  codes_stand (code ∷ codes) each =
      let first = each code (Contains-head code codes) in (
        subst (λ term. IsCodeOf texts term code) (sym (term_is first.0 code first.1)) first.1,
        codes_stand codes (λ other inside. each other (Contains-rest code codes other inside)),
      )

  -- ---- answers over the codes, and over the facts

  module _ (relations : List CodedRows) (facts : List (Fact Term)) (stand : StandFor (record { texts = texts; relations = relations }) facts)
      (query : ConjunctiveQuery) (row : List ℕ) where
    pub answers_coded : (terms : List Term) → AreCodesOf texts terms row → IsAnswerInto Const query (Contains facts) terms
        → IsAnswerInto text_code query (IsRowOf (rows_in relations)) row
    answers_coded terms are answer = subst (IsAnswerInto text_code query (IsRowOf (rows_in relations))) (codes_are terms row are)
        (answers_pushed (code_of text_code) Const text_code query (Contains facts) (IsRowOf (rows_in relations))
        (λ text stands. ap (code_step text_code) (outs-Const text))
        (λ fact atom inside same holds. let found = stand.has fact holds in
        subst (Contains (rows_in relations fact.relation)) (sym (codes_are fact.terms found.0 found.1)) found.2)
        terms answer)

    module _ (interned : AreInterned texts query) (safe : (term : Term) → Contains query.head term → IsFixedBy query.body term) where
      text_here : (text : List ℕ) → StandsIn query (Const text) → slice_get texts (text_code text) ≡ Some text
      text_here text stands = code_stands texts text (interned text stands)

      pub answers_decoded : IsAnswerInto text_code query (IsRowOf (rows_in relations)) row
          → (terms : List Term) × AreCodesOf texts terms row × IsAnswerInto Const query (Contains facts) terms
      answers_decoded answer = (
        map (term_of texts) row,
        codes_stand row (λ code inside. known code
            (Contains-map_from answer.0 query.head code (subst (λ them. Contains them code) answer.3 inside))),
        answers_pushed (term_of texts) text_code Const query (IsRowOf (rows_in relations)) (Contains facts)
            (λ text stands. ap (term_step (text_code text)) (text_here text stands))
            (λ fact atom inside same holds. let found = stand.only fact.relation fact.terms holds in
            subst (Contains facts) (is_fact fact found.0 found.2 found.3) found.1)
            row answer,
      )
        where
          is_fact : (fact : Fact ℕ) (found : Fact Term) → found.relation ≡ fact.relation → AreCodesOf texts found.terms fact.terms
              → found ≡ image (term_of texts) fact
          is_fact fact found same are =
              let terms = sym (terms_are found.terms fact.terms are) in λ i. record { relation = same i; terms = terms i }

          known : (code : ℕ) → (term : Term) × Contains query.head term × (answer.0 term ≡ code) → (other : Term) × IsCodeOf texts other code
          known code (term, inside, is) = elim (safe term inside) [
            | inl (text, same) ↦
                let own_code : text_code text ≡ code = sym (answer.1 text) ∙ ap answer.0 (sym same) ∙ is in (
                  Const text,
                  inl (text, refl, ap (slice_get texts) (sym own_code) ∙ text_here text (inl (subst (Contains query.head) same inside))),
                )
            | inr (atom, in_body, in_atom) ↦
                let found = stand.only atom.relation (map answer.0 atom.terms) (answer.2 atom in_body) in
                let term_found = zip_right (IsCodeOf texts) (found.0).terms (map answer.0 atom.terms) found.3 code
                (subst (Contains (map answer.0 atom.terms)) is (Contains-map answer.0 atom.terms term in_atom)) in
                (term_found.0, term_found.2)
          ]

-- ---- rows of the relations

abbrev pub rows_of : StoredRows → List (List ℕ)
rows_of relation = relation.rows.rows

abbrev pub coded_rows : List StoredRows → List CodedRows
coded_rows relations = map (λ (stored : StoredRows). stored.rows) relations

pub rows_in_is : (relations : List StoredRows) → rows_in (coded_rows relations) ≡ held_by (map rows_of relations)
rows_in_is relations = ap held_by (map_then (λ (stored : StoredRows). stored.rows) (λ (relation : CodedRows). relation.rows) relations)

pub rows_at : (relations : List StoredRows) (number : ℕ) (relation : StoredRows) → slice_get relations number ≡ Some relation
    → rows_in (coded_rows relations) number ≡ relation.rows.rows
rows_at relations number relation at =
    ap (λ them. them number) (rows_in_is relations)
    ∙ get_or_from_slice_get (map rows_of relations) number relation.rows.rows [] (map_at rows_of relations number relation at)

pub no_rows_at : (relations : List StoredRows) (number : ℕ) → slice_get relations number ≡ None → rows_in (coded_rows relations) number ≡ []
no_rows_at relations number none =
    ap (λ them. them number) (rows_in_is relations) ∙ get_or_past (map rows_of relations) number [] (past (slice_get_cases relations number).1)
  where
    past : ((relation : StoredRows) × (number < length relations) × (slice_get relations number ≡ Some relation)
        × (get_or relations number relation ≡ relation)) ⊎ ((length relations ≤ number) × (slice_get relations number ≡ None))
        → length (map rows_of relations) ≤ number
    past (inl (relation, _, there, _)) = absurd (none-some relation (sym none ∙ there))
    past (inr (outside, _)) = rw (length-map relations rows_of) outside

pub not_there : (relations : List StoredRows) (atom : Fact Term) → slice_get relations atom.relation ≡ None → IsVain relations atom
not_there relations atom none row inside same = Contains-nil row (subst (λ them. Contains them row) (no_rows_at relations atom.relation none) inside)

pub there_tells : (relations : List StoredRows) (atom : Fact Term) (relation : StoredRows) (arity count : ℕ)
    → slice_get relations atom.relation ≡ Some relation → arity ≡ relation.rows.arity → HaveLength relation.rows.arity relation.rows.rows
    → count ≡ length atom.terms → TellsOver relations atom (arity == count)
there_tells relations atom relation arity count there is long counted = by (arity == count) refl
  where
    by : (answer : Bool) → (arity == count) ≡ answer → TellsOver relations atom answer
    by true told =
        let same : relation.rows.arity ≡ length atom.terms = sym is ∙ (Decides-eqb arity count).0 told ∙ counted in
        (relation, there, λ row inside. long row inside ∙ same)
    by false told = λ row inside same_length.
        let own : relation.rows.arity ≡ length row =
        sym (long row (subst (λ them. Contains them row) (rows_at relations atom.relation relation there) inside)) in
        let wrong : false ≡ true = sym told ∙ (Decides-eqb arity count).1 (is ∙ own ∙ same_length ∙ sym counted) in cc

all_fit : (relations : List StoredRows) (atoms : List (Fact Term)) → ((atom : Fact Term) → Contains atoms atom → IsOver relations atom)
    → Fits atoms (IsRowOf (rows_in (coded_rows relations)))
all_fit relations atoms over atom fact inside holds same =
    let relation = over atom inside in
    sym (relation.2 fact.terms (subst (λ them. Contains them fact.terms)
    (ap (rows_in (coded_rows relations)) same ∙ rows_at relations atom.relation relation.0 relation.1) holds))

-- ---- the answers of the program

pub no_answers : (texts : List (List ℕ)) (relations : List StoredRows) (query : ConjunctiveQuery) (atom : Fact Term) → Contains query.body atom
    → IsVain relations atom → AreCodedAnswers (coded_of texts relations) query []
no_answers texts relations query atom inside vain facts stand row = (
  λ none. absurd (Contains-nil row none),
  λ (terms, are, answer). let found = stand.has (image answer.0 atom) (answer.2 atom inside) in
      absurd (vain found.0 found.2 (sym (zip_length (IsCodeOf texts) (map answer.0 atom.terms) found.0 found.1) ∙ length-map atom.terms answer.0)),
)

abbrev whole_patterns : List StoredRows → List (List (List Bool))
whole_patterns relations = map (λ (relation : StoredRows). [] ∷ []) relations

one_pattern : (relations : List StoredRows) (atoms : List (Fact Term)) → ((atom : Fact Term) → Contains atoms atom → IsOver relations atom)
    → (atom : Fact Term) → Contains atoms atom → get_or (whole_patterns relations) atom.relation [] ≡ [] ∷ []
one_pattern relations atoms over atom inside =
    let relation = over atom inside in
    get_or_from_slice_get (whole_patterns relations) atom.relation ([] ∷ []) []
    (map_at (λ (relation : StoredRows). [] ∷ []) relations atom.relation relation.0 relation.1)

pub results_coded : (texts : List (List ℕ)) (relations : List StoredRows) (query : ConjunctiveQuery) (steps : Steps) (rows : List (List ℕ))
    → AreTelling texts → ((term : Term) → Contains query.head term → IsFixedBy query.body term)
    → ((atom : Fact Term) → Contains query.body atom → IsOver relations atom) → AreWholeSteps texts query steps
    → ((row : List ℕ) → Contains rows row ↔ IsResult (IsRowOf (held_by (map rows_of relations))) steps row)
    → AreCodedAnswers (coded_of texts relations) query rows
results_coded texts relations query steps rows telling safe over are results facts stand row =
    let patterns = whole_patterns relations in
    let planned = steps_of_query texts patterns query steps (one_pattern relations query.body over) are in
    let interned = plans_intern texts patterns query steps planned in
    let told = results_are_answers texts (code_in texts) (code_in_numbers texts telling.distinct) patterns query steps
    (IsRowOf (rows_in (coded_rows relations))) planned (all_fit relations query.body over) row in
    let is : held_by (map rows_of relations) ≡ rows_in (coded_rows relations) = sym (rows_in_is relations) in (
      λ inside. answers_decoded texts telling (coded_rows relations) facts stand query row interned safe
          (told.0 (subst (λ them. IsResult (IsRowOf them) steps row) is ((results row).0 inside))),
      λ (terms, own_codes, answer). (results row).1 (subst (λ them. IsResult (IsRowOf them) steps row) (sym is)
          (told.1 (answers_coded texts telling (coded_rows relations) facts stand query row terms own_codes answer))),
    )
