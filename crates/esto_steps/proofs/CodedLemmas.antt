-- Answers over codes and answers over texts.
use Rattle.std.proofs.Common.{◌≡◌, ◌≢◌, ◌↔◌, inl, inr, ℕ, Bool, List, [], ◌∷◌, map, get_or, Some, slice_get, Contains, refl, sym, ap, ◌∙◌, subst}
use Rattle.std.specs.Prelude.{AllPairs}
use Rattle.std.proofs.lemmas.Option.{get_or_from_slice_get}
use Rattle.esto_term.specs.declared.term.Term.{Term}
use Rattle.esto_term.specs.declared.term.Term.TheVariants.{Const}
use Rattle.esto_semantics.specs.Facts.{Database, image}
use Rattle.esto_semantics.specs.Views.{IsViewRow, IsFragmentAnswer}
use Rattle.esto_semantics.specs.declared.fact.Value.{Value}
use Rattle.esto_semantics.specs.declared.fact.Value.TheVariants.{Text, Node}
use Rattle.esto_semantics.specs.Queries.{ConjunctiveQuery, IsAnswerInto}
use Rattle.esto_semantics.specs.declared.fact.Fact.{Fact}
use Rattle.esto_term.proofs.ListLemmas.{Contains-at, Contains-head, Contains-rest, Contains-map, Contains-map_from, map_agree, map_then}
use Rattle.esto_semantics.proofs.FactLemmas.{image_agree, image_then}
use Rattle.esto_term.proofs.ListLemmas.{place-from_Contains, map_at, map_at-from}
use Rattle.esto_semantics.proofs.TermLemmas.{mended, mended-Keeps, mended-same}
use Rattle.esto_steps.specs.declared.steps.Steps.{Steps}
use Rattle.esto_steps.specs.Meaning.{IsResult}
use Rattle.esto_steps.specs.Planned.{AreStepsOf, Fits}
use Rattle.esto_steps.specs.Rows.{IsRowOf}
use Rattle.esto_steps.specs.Texts.{AreViewRows, AreCoded, StandsIn, IsNumbering, AreInterned, IsSafeQuery}
use Rattle.esto_columns.specs.Interned.{AreCodesOf}
use Rattle.esto_steps.proofs.CodeLemmas.{code_in, code_in_numbers}
use Rattle.esto_steps.proofs.MeaningLemmas.{results_are_answers, plans_intern}

-- ---- a map of values makes answers of answers

module _ {V W : Type 0} (h : V → W) (constant : List ℕ → V) (other_constant : List ℕ → W) (query : ConjunctiveQuery) (Holds : Fact V → Type 0)
    (Others : Fact W → Type 0)
    (constants : (text : List ℕ) → StandsIn query (Const text) → h (constant text) ≡ other_constant text)
    (sends : (fact : Fact V) (atom : Fact Term) → Contains query.body atom → fact.relation ≡ atom.relation → Holds fact → Others (image h fact)) where
  pub answers_pushed : (row : List V) → IsAnswerInto constant query Holds row → IsAnswerInto other_constant query Others (map h row)
  answers_pushed row (m, keeps, sent, is) = (
    next,
    mended-Keeps other_constant (λ term. h (m term)),
    (λ atom inside. subst Others (image_then m h atom ∙ image_agree (λ term. h (m term)) next atom (λ term in_atom. agree term (inr (atom, inside, in_atom))))
        (sends (image m atom) atom inside refl (sent atom inside))),
    ap (map h) is ∙ map_then m h query.head ∙ map_agree (λ term. h (m term)) next query.head (λ term inside. agree term (inl inside)),
  )
    where
      next : Term → W
      next = mended other_constant (λ term. h (m term))

      agree : (term : Term) → StandsIn query term → h (m term) ≡ next term
      agree term stands = mended-same other_constant (λ it. h (m it)) term
          (λ text is. ap (λ it. h (m it)) is ∙ ap h (keeps text) ∙ constants text (subst (StandsIn query) is stands))

-- ---- codes and texts

module _ (texts : List (List ℕ)) where
  -- the text of a code
  abbrev pub text_at : ℕ → List ℕ
  text_at code = get_or texts code []

  pub texts_of : (codes : List ℕ) (row : List (List ℕ)) → AreCodesOf texts codes row → map text_at codes ≡ row
  texts_of [] [] are = refl
  texts_of [] (text ∷ row) are = absurd (cc)
  texts_of (code ∷ codes) [] are = absurd (cc)
  texts_of (code ∷ codes) (text ∷ row) are =
      let here : slice_get texts code ≡ Some text = cc in let first = get_or_from_slice_get texts code text [] here in let rest = texts_of codes row (cc) in
      λ i. first i ∷ rest i

  module _ (code : List ℕ → ℕ) (numbering : IsNumbering texts code) (query : ConjunctiveQuery) (interned : AreInterned texts query) where
    right : (text : List ℕ) → Contains texts text → slice_get texts (code text) ≡ Some text
    right text inside = let at = place-from_Contains texts text inside in ap (slice_get texts) (numbering at.0 text at.1) ∙ at.1

    -- the codes of a coded row's texts are its codes
    pub codes_of : (codes : List ℕ) (row : List (List ℕ)) → AreCodesOf texts codes row → map code row ≡ codes
    codes_of [] [] are = refl
    codes_of [] (text ∷ row) are = absurd (cc)
    codes_of (number ∷ codes) [] are = absurd (cc)
    codes_of (number ∷ codes) (text ∷ row) are =
        let here : slice_get texts number ≡ Some text = cc in
        let first = numbering number text here in
        let rest = codes_of codes row (cc) in λ i. first i ∷ rest i

    coded_texts : (row : List (List ℕ)) → ((text : List ℕ) → Contains row text → Contains texts text) → AreCodesOf texts (map code row) row
    coded_texts [] all = refl
    coded_texts (text ∷ row) all =
        let first = right text (all text (Contains-head text row)) in let rest = coded_texts row (λ it inside. all it (Contains-rest text row it inside)) in
        λ i. first i ∷ rest i

    -- the texts of a coded row have codes
    have_codes : (codes : List ℕ) (row : List (List ℕ)) → AreCodesOf texts codes row → (text : List ℕ) → Contains row text → Contains texts text
    have_codes codes row are text inside =
        let at = place-from_Contains row text inside in
        let there = map_at-from (slice_get texts) codes at.0 (Some text) (ap (λ it. slice_get it at.0) are ∙ map_at Some row at.0 text at.1) in
        Contains-at texts there.0 text there.2

    module _ (coded : ℕ → List (List ℕ)) (rows : ℕ → List (List (List ℕ))) (are : AreCoded texts coded rows) where
      row_of : (fragment : ℕ) (codes : List ℕ) → Contains (coded fragment) codes
          → (row : List (List ℕ)) × Contains (rows fragment) row × AreCodesOf texts codes row
      row_of fragment codes inside =
          let at = place-from_Contains (coded fragment) codes inside in
          let found = map_at-from (map Some) (rows fragment) at.0 (map (slice_get texts) codes)
          (ap (λ it. slice_get it at.0) (sym (are fragment)) ∙ map_at (map (slice_get texts)) (coded fragment) at.0 codes at.1) in
          (found.0, Contains-at (rows fragment) at.0 found.0 found.1, sym found.2)

      codes_from : (fragment : ℕ) (row : List (List ℕ)) → Contains (rows fragment) row
          → (codes : List ℕ) × Contains (coded fragment) codes × AreCodesOf texts codes row
      codes_from fragment row inside =
          let at = place-from_Contains (rows fragment) row inside in
          let found = map_at-from (map (slice_get texts)) (coded fragment) at.0 (map Some row)
          (ap (λ it. slice_get it at.0) (are fragment) ∙ map_at (map Some) (rows fragment) at.0 row at.1) in
          (found.0, Contains-at (coded fragment) at.0 found.0 found.1, found.2)

      pub answers_in_texts : (codes : List ℕ) (row : List (List ℕ)) → IsAnswerInto code query (IsRowOf coded) codes → AreCodesOf texts codes row
          → IsAnswerInto (λ text. text) query (IsRowOf rows) row
      answers_in_texts codes row answer own = subst (IsAnswerInto (λ text. text) query (IsRowOf rows)) (texts_of codes row own)
          (answers_pushed text_at code (λ text. text) query (IsRowOf coded) (IsRowOf rows)
          (λ text stands. get_or_from_slice_get texts (code text) text [] (right text (interned text stands)))
          (λ fact _ _ _ holds. let found = row_of fact.relation fact.terms holds in
          subst (Contains (rows fact.relation)) (sym (texts_of fact.terms found.0 found.2)) found.1)
          codes answer)

      pub answers_in_codes : IsSafeQuery query → (row : List (List ℕ)) → IsAnswerInto (λ text. text) query (IsRowOf rows) row
          → IsAnswerInto code query (IsRowOf coded) (map code row) × AreCodesOf texts (map code row) row
      answers_in_codes safe row answer = (
        answers_pushed code (λ text. text) code query (IsRowOf rows) (IsRowOf coded) (λ text stands. refl)
            (λ fact _ _ _ holds. let found = codes_from fact.relation fact.terms holds in
            subst (Contains (coded fact.relation)) (sym (codes_of found.0 fact.terms found.2)) found.1)
            row answer,
        coded_texts row (λ text inside. known text (Contains-map_from answer.0 query.head text (subst (λ it. Contains it text) answer.3 inside))),
      )
        where
          known : (text : List ℕ) → (term : Term) × Contains query.head term × (answer.0 term ≡ text) → Contains texts text
          known text (term, inside, is) = elim (safe term inside) [
            | inl constant ↦ subst (Contains texts) (sym (answer.1 constant.0) ∙ sym (ap answer.0 constant.1) ∙ is)
                (interned constant.0 (inl (subst (Contains query.head) constant.1 inside)))
            | inr (atom, in_body, in_atom) ↦
                let found = codes_from atom.relation (map answer.0 atom.terms) (answer.2 atom in_body) in
                have_codes found.0 (map answer.0 atom.terms) found.2 text
                (subst (Contains (map answer.0 atom.terms)) is (Contains-map answer.0 atom.terms term in_atom))
          ]

pub results_are_answers_in_texts : (texts : List (List ℕ)) (patterns : List (List (List Bool))) (query : ConjunctiveQuery) (steps : Steps)
    (coded : ℕ → List (List ℕ)) (rows : ℕ → List (List (List ℕ)))
    → AllPairs ◌≢◌ texts → IsSafeQuery query → AreCoded texts coded rows → AreStepsOf texts patterns query steps → Fits query.body (IsRowOf coded)
    → (row : List (List ℕ)) → ((codes : List ℕ) × IsResult (IsRowOf coded) steps codes × AreCodesOf texts codes row)
    ↔ IsAnswerInto (λ text. text) query (IsRowOf rows) row
results_are_answers_in_texts texts patterns query steps coded rows once safe are_coded are fits row =
    let interned = plans_intern texts patterns query steps are in let code = code_in texts in let numbering = code_in_numbers texts once in (
      λ found. answers_in_texts texts code numbering query interned coded rows are_coded found.0 row
          ((results_are_answers texts code numbering patterns query steps (IsRowOf coded) are fits found.0).0 found.1) found.2,
      λ answer. let both = answers_in_codes texts code numbering query interned coded rows are_coded safe row answer in
          (map code row, (results_are_answers texts code numbering patterns query steps (IsRowOf coded) are fits (map code row)).1 both.0, both.1),
    )

-- ---- databases

text_of : Value → List ℕ
text_of (Text text) = text
text_of (Node number) = []

IsText : Value → Type 0
IsText (Text text) = Unit {0}
IsText (Node number) = ⊥

texts_back : (values : List Value) → ((value : Value) → Contains values value → IsText value) → values ≡ map Text (map text_of values)
unfolding text_of IsText
texts_back [] all = refl
texts_back (Text text ∷ values) all =
    ap (λ rest. Text text ∷ rest) (texts_back values (λ value inside. all value (Contains-rest (Text text) values value inside)))
texts_back (Node number ∷ values) all = absurd (all (Node number) (Contains-head (Node number) values))

texts_same : (row : List (List ℕ)) → map text_of (map Text row) ≡ row
unfolding text_of
texts_same [] = refl
texts_same (text ∷ row) = ap (λ rest. text ∷ rest) (texts_same row)

text_is_text : (text : List ℕ) → IsText (Text text)
unfolding IsText
text_is_text text = tt

text_of-Text : (text : List ℕ) → text_of (Text text) ≡ text
unfolding text_of
text_of-Text text = refl

are_texts : (row : List (List ℕ)) (value : Value) → Contains (map Text row) value → IsText value
are_texts row value inside = let found = Contains-map_from Text row value inside in subst IsText found.2 (text_is_text found.0)

-- over any relation that tells which rows a fragment holds
module _ (views : List ConjunctiveQuery) (database : Database) (query : ConjunctiveQuery) (Held : ℕ → List (List ℕ) → Type 0) (safe : IsSafeQuery query)
    (are : (fact : Fact Value) (atom : Fact Term) → Contains query.body atom → atom.relation ≡ fact.relation
    → IsViewRow views database fact ↔ ((row : List (List ℕ)) × Held fact.relation row × (fact.terms ≡ map Text row))) (values : List Value) where
  all : (answer : IsFragmentAnswer views query database values) (value : Value) → (term : Term) × Contains query.head term × (answer.0 term ≡ value)
      → IsText value
  all answer value (term, inside, is) = elim (safe term inside) [
    | inl constant ↦ subst IsText (sym (answer.1 constant.0) ∙ sym (ap answer.0 constant.1) ∙ is) (text_is_text constant.0)
    | inr (atom, in_body, in_atom) ↦
        let found = (are (image answer.0 atom) atom in_body refl).0 (answer.2 atom in_body) in
        are_texts found.0 value (subst (λ them. Contains them value) found.2
        (subst (Contains (map answer.0 atom.terms)) is (Contains-map answer.0 atom.terms term in_atom)))
  ]

  pub answers_over_held : IsFragmentAnswer views query database values
      ↔ ((row : List (List ℕ)) × (values ≡ map Text row) × IsAnswerInto (λ text. text) query (λ fact. Held fact.relation fact.terms) row)
  answers_over_held = (
    λ answer. (
      map text_of values,
      texts_back values (λ value inside. all answer value (Contains-map_from answer.0 query.head value (subst (λ them. Contains them value) answer.3 inside))),
      answers_pushed text_of Text (λ text. text) query (IsViewRow views database) (λ fact. Held fact.relation fact.terms) (λ text stands. text_of-Text text)
          (λ fact atom inside same holds. let found = (are fact atom inside (sym same)).0 holds in
          subst (Held fact.relation) (sym (ap (map text_of) found.2 ∙ texts_same found.0)) found.1)
          values answer,
    ),
    λ (row, is, answer). subst (IsFragmentAnswer views query database) (sym is)
        (answers_pushed Text (λ text. text) Text query (λ fact. Held fact.relation fact.terms) (IsViewRow views database) (λ text stands. refl)
        (λ fact atom inside same holds. (are (image Text fact) atom inside (sym same)).1 (fact.terms, holds, refl)) row answer),
  )

pub answers_over_a_database : (views : List ConjunctiveQuery) (database : Database) (query : ConjunctiveQuery) (rows : ℕ → List (List (List ℕ)))
    → IsSafeQuery query → AreViewRows views database query rows
    → (values : List Value) → IsFragmentAnswer views query database values
    ↔ ((row : List (List ℕ)) × (values ≡ map Text row) × IsAnswerInto (λ text. text) query (IsRowOf rows) row)
answers_over_a_database views database query rows safe are values =
    answers_over_held views database query (λ fragment row. Contains (rows fragment) row) safe are values
