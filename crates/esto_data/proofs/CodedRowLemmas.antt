-- Rows of codes, the rows of terms that they are of, and the rows of values that these stand for.
use Rattle.std.proofs.Common.{◌≡◌, ◌≢◌, ◌↔◌, ◌<◌, ◌≤◌, ◌+◌, inl, inr, ℕ, zero, suc, List, [], ◌∷◌, ◌++◌, length, get_or, take, map, Option, Some, None}
use Rattle.std.proofs.Common.{slice_get, Contains, refl, sym, ap, ◌∙◌, subst, append-nil, arith}
use Rattle.std.specs.Borrow.{Bor}
use Rattle.std.specs.Option.{option_copied}
use Rattle.std.specs.Prelude.{AllPairs, Result, Ok, Err, IfOk}
use Rattle.std.proofs.lemmas.List.{take_all}
use Rattle.std.proofs.lemmas.Option.{none-some, same_Some, slice_get_within}
use Rattle.std.proofs.lemmas.List.Elements.{Contains-append_cases, Contains-append_left, Contains-append_right, Contains-push_cases}
use Rattle.esto_coded.specs.Answered.{AreCodedAnswers}
use Rattle.esto_coded.specs.Coded.{Coded, AreCodesOf, AreTelling, IsCodeOf, StandFor, StandInOrder}
use Rattle.esto_coded.specs.Shown.{HasNodeAt, LeastNode}
use Rattle.esto_coded.specs.declared.coded.TheConstants.{FIRST_NODE}
use Rattle.esto_coded.proofs.StandLemmas.{codes_grow, one_codes, text_codes}
use Rattle.esto_columns.specs.CodedRows.{CodedRows}
use Rattle.esto_columns.specs.Interned as interned
use Rattle.esto_columns.proofs.CodingLemmas.{grows_on}
use Rattle.esto_query.specs.Making.{query_of}
use Rattle.esto_query.specs.declared.query.Query.{Query}
use Rattle.esto_semantics.specs.Facts.{Database, image}
use Rattle.esto_semantics.specs.Maps.{IsFixedBy, Keeps, SendsInto}
use Rattle.esto_semantics.specs.Queries.{ConjunctiveQuery, IsAnswer, IsAnswerInto, IsQuery}
use Rattle.esto_semantics.specs.Standing.{RowsStand}
use Rattle.esto_semantics.specs.Unions.{IsUnionAnswer}
use Rattle.esto_semantics.specs.declared.fact.Fact.{Fact}
use Rattle.esto_semantics.specs.declared.fact.Value.{Value}
use Rattle.esto_semantics.specs.declared.fact.Value.TheVariants.{Text, Node}
use Rattle.esto_stores.specs.Rows.{Row}
use Rattle.esto_term.specs.declared.term.Term.{Term}
use Rattle.esto_term.specs.declared.term.Term.TheVariants.{Const}
use Rattle.esto_term.proofs.ListLemmas.{Contains-at, Contains-head, Contains-map, Contains-map_from, Contains-nil, Contains-rest, first_same, map_at}
use Rattle.esto_term.proofs.ListLemmas.{map_at-from, place-from_Contains, rest_same}
use Rattle.esto_term.proofs.PlaceLemmas.{take-item}
use Rattle.esto_term.proofs.ZipLemmas.{zip_at, zip_left}
use Rattle.esto_data.specs.CodedParts.{AreRowsOf, HaveTerms, IsUnionRow, ShowsRows, Stays}
use Rattle.esto_data.specs.Coding.{IsCodedOf}
use Rattle.esto_data.specs.declared.coded_data.CodedData.{CodedData}
use Rattle.esto_fill.specs.declared.loaded.Loaded.{Loaded}
use Rattle.esto_fill.specs.Databases.{value_of}
use Rattle.esto_fill.specs.Placing.{NamesColumn}
use Rattle.esto_fill.specs.Texts.{GivesTexts, HasNodeIn, HaveTextsOnly, IsFirstNodeColumn, JudgesRows}
use Rattle.esto_fill.specs.declared.rows.AnswerError.{AnswerError}
use Rattle.esto_fill.specs.declared.rows.AnswerError.TheVariants.{NodeInRow, OutOfMemory}
use Rattle.esto_fill.proofs.TextLemmas.{row_of_texts}
use Rattle.esto_fill.proofs.ValueLemmas.{map_value, node_open, value_Plain}

-- ---- what stays

pub stays_itself : (coded : CodedData) → Stays coded coded
stays_itself coded = record { kept = λ loaded its. its; grown = ([], sym (append-nil coded.facts.texts)) }

pub stays_on : (old middle new : CodedData) → Stays old middle → Stays middle new → Stays old new
stays_on old middle new first next = record {
  kept = λ loaded its. next.kept loaded (first.kept loaded its);
  grown = grows_on old.facts.texts middle.facts.texts new.facts.texts first.grown next.grown;
}

-- where the rows of codes stand for the same facts
pub coded_by : (old new : CodedData) → ((facts : List (Fact Term)) → StandFor old.facts facts → StandFor new.facts facts)
    → ((facts : List (Fact Term)) → StandInOrder old.facts facts → StandInOrder new.facts facts) → new.next ≡ old.next → (loaded : Loaded)
    → IsCodedOf loaded old → IsCodedOf loaded new
coded_by old new stand ordered next loaded its = record {
  stand = stand loaded.facts its.stand;
  ordered = (its.ordered.0, ordered its.ordered.0 its.ordered.1, its.ordered.2);
  next = next ∙ its.next;
}

pub stays_by : (old new : CodedData) → ((facts : List (Fact Term)) → StandFor old.facts facts → StandFor new.facts facts)
    → ((facts : List (Fact Term)) → StandInOrder old.facts facts → StandInOrder new.facts facts)
    → interned.Grows old.facts.texts new.facts.texts → new.next ≡ old.next → Stays old new
stays_by old new stand ordered grown next = record { kept = coded_by old new stand ordered next; grown = grown }

pub stays_same : (old new : CodedData) → new.facts ≡ old.facts → new.next ≡ old.next → Stays old new
stays_same old new same next =
    stays_by old new (λ facts stand. subst (λ it. StandFor it facts) (sym same) stand)
    (λ facts stand. subst (λ it. StandInOrder it facts) (sym same) stand)
    ([], ap (λ (it : Coded). it.texts) same ∙ sym (append-nil old.facts.texts)) next

-- ---- codes and terms

module _ (texts : List (List ℕ)) where
  -- the terms of codes that are of no node are constants
  pub constants_of : (terms : List Term) (row : List ℕ) → AreCodesOf texts terms row → ((column : ℕ) → HasNodeAt column row → ⊥)
      → (cells : List (List ℕ)) × (terms ≡ map Const cells) × (map (slice_get texts) row ≡ map Some cells)
  constants_of [] [] are none = ([], refl, refl)
  constants_of [] (code ∷ row) are none = absurd are
  constants_of (term ∷ terms) [] are none = absurd are
  constants_of (term ∷ terms) (code ∷ row) (is, rest) none =
      let later = constants_of terms row rest (λ column has. none (suc column) has) in
      elim is [
        | inl (text, constant, at) ↦ (text ∷ later.0, (λ i. constant i ∷ later.1 i), (λ i. at i ∷ later.2 i))
        | inr (node, plain, own) ↦ absurd (none 0 (code, refl, omega (arith, own)))
      ]

  -- a code at a place is that of a term there
  pub term_at : (terms : List Term) (row : List ℕ) → AreCodesOf texts terms row → (place code : ℕ) → slice_get row place ≡ Some code
      → (term : Term) × (slice_get terms place ≡ Some term) × IsCodeOf texts term code
  term_at [] [] are place code at = absurd (Contains-nil code (Contains-at [] place code at))
  term_at [] (first ∷ row) are place code at = absurd are
  term_at (term ∷ terms) [] are place code at = absurd are
  term_at (term ∷ terms) (first ∷ row) (is, rest) zero code at = (term, refl, subst (IsCodeOf texts term) (same_Some first code at) is)
  term_at (term ∷ terms) (first ∷ row) (is, rest) (suc place) code at = term_at terms row rest place code at

  -- codes that are of no node are those of texts
  pub known : (terms : List Term) (row : List ℕ) → AreCodesOf texts terms row → ((column : ℕ) → HasNodeAt column row → ⊥) → (code : ℕ) → Contains row code
      → code < length texts
  known terms row are none code inside =
      let place = place-from_Contains row code inside in
      let term = term_at terms row are place.0 code place.1 in
      elim term.2 [
        | inl (text, constant, at) ↦ slice_get_within texts code text at
        | inr (node, plain, own) ↦ absurd (none place.0 (code, place.1, omega (arith, own)))
      ]

  -- terms whose codes are those of cells are these as constants
  pub text_terms : length texts ≤ FIRST_NODE → (terms : List Term) (row : List ℕ) (cells : List (List ℕ)) → AreCodesOf texts terms row
      → map (slice_get texts) row ≡ map Some cells → terms ≡ map Const cells
  text_terms few [] [] [] are same = refl
  text_terms few [] [] (cell ∷ cells) are same = absurd (cc)
  text_terms few [] (code ∷ row) cells are same = absurd are
  text_terms few (term ∷ terms) [] cells are same = absurd are
  text_terms few (term ∷ terms) (code ∷ row) [] are same = absurd (cc)
  text_terms few (term ∷ terms) (code ∷ row) (cell ∷ cells) (is, rest) same =
      let here : slice_get texts code ≡ Some cell = first_same (slice_get texts code) (Some cell) (map (slice_get texts) row) (map Some cells) same in
      let later = text_terms few terms row cells rest (rest_same (slice_get texts code) (Some cell) (map (slice_get texts) row) (map Some cells) same) in
      elim is [
        | inl (text, constant, at) ↦
            let one : term ≡ Const cell = constant ∙ ap Const (same_Some text cell (sym at ∙ here)) in λ i. one i ∷ later i
        | inr (node, plain, own) ↦ absurd (let within = slice_get_within texts code cell here in omega (arith, within, few, own))
      ]

-- ---- rows that answer

module _ (texts : List (List ℕ)) (m : Term → Term) where
  codes_map : (terms : List Term) → ((term : Term) → Contains terms term → (code : ℕ) × IsCodeOf texts (m term) code)
      → (row : List ℕ) × AreCodesOf texts (map m terms) row
  codes_map [] each = ([], tt)
  codes_map (term ∷ terms) each =
      let own = each term (Contains-head term terms) in
      let rest = codes_map terms (λ other inside. each other (Contains-rest term terms other inside)) in
      (own.0 ∷ rest.0, (own.1, rest.1))

module _ (coded : Coded) (query : ConjunctiveQuery) (rows : List (List ℕ)) (facts : List (Fact Term)) (answers : AreCodedAnswers coded query rows)
    (stand : StandFor coded facts) (telling : AreTelling coded.texts)
    (constants : (text : List ℕ) → Contains query.head (Const text) → Contains coded.texts text)
    (fixed : (term : Term) → Contains query.head term → IsFixedBy query.body term) where
  -- each term of an answer has a code
  has_code : (m : Term → Term) → Keeps Const m → SendsInto m query.body (Contains facts) → (term : Term) → Contains query.head term
      → (code : ℕ) × IsCodeOf coded.texts (m term) code
  has_code m keeps sends term inside = elim (fixed term inside) [
    | inl (text, constant) ↦
        let place = place-from_Contains coded.texts text (constants text (subst (Contains query.head) constant inside)) in
        (place.0, inl (text, ap m constant ∙ keeps text, place.1))
    | inr (atom, among, in_atom) ↦
        let own = stand.has (image m atom) (sends atom among) in
        let code = zip_left (IsCodeOf coded.texts) (map m atom.terms) own.0 own.1 (m term) (Contains-map m atom.terms term in_atom) in
        (code.0, code.2)
  ]

  coded_row : (terms : List Term) → IsAnswerInto Const query (Contains facts) terms → (row : List ℕ) × AreCodesOf coded.texts terms row
  coded_row terms (m, keeps, sends, is) =
      let row = codes_map coded.texts m query.head (has_code m keeps sends) in
      (row.0, subst (λ those. AreCodesOf coded.texts those row.0) (sym is) row.1)

  -- the rows of codes are those of the answers
  pub are_rows : AreRowsOf coded.texts rows (IsAnswerInto Const query (Contains facts))
  are_rows = record {
    there = λ row inside. let found = (answers facts stand row).0 inside in (found.0, found.2, found.1);
    back = λ terms answer.
        let row = coded_row terms answer in (row.0, (answers facts stand row.0).1 (terms, row.1, answer), row.1);
    few = λ row inside. telling.few;
  }

-- so it is where the head and the body are those of a query
pub rows_are : (coded : Coded) (query : Query) (head : List Term) (body : List (Fact Term)) (rows : List (List ℕ)) (facts : List (Fact Term))
    → head ≡ query.head → body ≡ query.body → IsQuery (query_of query) → AreCodedAnswers coded (record { head = head; body = body }) rows
    → StandFor coded facts → AreTelling coded.texts → ((text : List ℕ) → Contains head (Const text) → Contains coded.texts text)
    → AreRowsOf coded.texts rows (IsAnswerInto Const (query_of query) (Contains facts))
rows_are coded query head body rows facts one two sound answers stand telling constants =
    subst (λ (it : ConjunctiveQuery). AreRowsOf coded.texts rows (IsAnswerInto Const it (Contains facts))) same
    (are_rows coded (record { head = head; body = body }) rows facts answers stand telling constants
    (subst (λ (it : ConjunctiveQuery). (term : Term) → Contains it.head term → IsFixedBy it.body term) (sym same) sound.safe))
  where
    same : record { head = head; body = body } ≡ query_of query
    same = λ i. record { head = one i; body = two i }

pub rows_found : {E : Type 0} (result : Result CodedRows E) (old : CodedData) (coded : Coded) (query : Query) (head : List Term) (body : List (Fact Term))
    → head ≡ query.head → body ≡ query.body → IsQuery (query_of query)
    → ((facts : List (Fact Term)) → StandFor old.facts facts → StandFor coded facts)
    → IfOk result (λ it. AreCodedAnswers coded (record { head = head; body = body }) it.rows) → IfOk result (λ _. AreTelling coded.texts)
    → IfOk result (λ _. (text : List ℕ) → Contains head (Const text) → Contains coded.texts text)
    → IfOk result (λ it. (loaded : Loaded) → IsCodedOf loaded old → AreRowsOf coded.texts it.rows (IsAnswerInto Const (query_of query) (Contains loaded.facts)))
rows_found (Ok it) old coded query head body one two sound stand answers telling constants =
    λ loaded its. rows_are coded query head body it.rows loaded.facts one two sound answers (stand loaded.facts its.stand) telling constants
rows_found (Err error) old coded query head body one two sound stand answers telling constants = tt

-- no rows are those of no queries
pub no_rows : (texts : List (List ℕ)) (facts : List (Fact Term)) → AreRowsOf texts [] (IsUnionRow [] facts)
no_rows texts facts = record {
  there = λ row inside. absurd (Contains-nil row inside);
  back = λ terms (query, inside, answer). absurd (Contains-nil query inside);
  few = λ row inside. absurd (Contains-nil row inside);
}

-- with the rows of one query more
pub rows_more : (old new : List (List ℕ)) (rows own : List (List ℕ)) (queries : List Query) (query : Query) (facts : List (Fact Term))
    → interned.Grows old new → length new ≤ FIRST_NODE → AreRowsOf old rows (IsUnionRow queries facts)
    → AreRowsOf new own (IsAnswerInto Const (query_of query) (Contains facts)) → AreRowsOf new (rows ++ own) (IsUnionRow (queries ++ query ∷ []) facts)
rows_more old new rows own queries query facts grown few before its = record { there = there; back = back; few = λ row inside. few }
  where
    there : (row : List ℕ) → Contains (rows ++ own) row → (terms : List Term) × IsUnionRow (queries ++ query ∷ []) facts terms × AreCodesOf new terms row
    there row inside = elim (Contains-append_cases rows own row inside) [
      | inl early ↦
          let (terms, (other, among, answer), codes) = before.there row early in
          (terms, (other, Contains-append_left queries (query ∷ []) other among, answer), codes_grow old new grown terms row codes)
      | inr late ↦
          let (terms, answer, codes) = its.there row late in
          (terms, (query, Contains-append_right queries (query ∷ []) query (Contains-head query []), answer), codes)
    ]

    back : (terms : List Term) → IsUnionRow (queries ++ query ∷ []) facts terms → (row : List ℕ) × Contains (rows ++ own) row × AreCodesOf new terms row
    back terms (other, among, answer) = elim (Contains-push_cases queries query other among) [
      | inl early ↦
          let (row, inside, codes) = before.back terms (other, early, answer) in
          (row, Contains-append_left rows own row inside, codes_grow old new grown terms row codes)
      | inr last ↦
          let (row, inside, codes) =
          its.back terms (subst (λ (it : Query). IsAnswerInto Const (query_of it) (Contains facts) terms) (sym last) answer) in
          (row, Contains-append_right rows own row inside, codes)
    ]

-- ---- rows of texts

-- a row of codes is that of one of the rows of texts, and the other way round
pub coded_text : (texts : List (List ℕ)) (held : List (List ℕ)) (lists : List Row) → interned.AreCodedRows texts held lists → (row : List ℕ)
    → Contains held row → (cells : Row) × Contains lists cells × interned.AreCodesOf texts row cells
coded_text texts held lists codes row inside =
    let place = place-from_Contains held row inside in
    let at = map_at (map (slice_get texts)) held place.0 row place.1 in
    let from = map_at-from (map Some) lists place.0 (map (slice_get texts) row) (sym (ap (λ those. slice_get those place.0) codes) ∙ at) in
    (from.0, Contains-at lists place.0 from.0 from.1, sym from.2)

pub text_coded : (texts : List (List ℕ)) (held : List (List ℕ)) (lists : List Row) → interned.AreCodedRows texts held lists → (cells : Row)
    → Contains lists cells → (row : List ℕ) × Contains held row × interned.AreCodesOf texts row cells
text_coded texts held lists codes cells inside =
    let place = place-from_Contains lists cells inside in
    let at = map_at (map Some) lists place.0 cells place.1 in
    let from = map_at-from (map (slice_get texts)) held place.0 (map Some cells) (ap (λ those. slice_get those place.0) codes ∙ at) in
    (from.0, Contains-at held place.0 from.0 from.1, from.2)

-- ---- rows of values

module _ (texts : List (List ℕ)) (rows : List (List ℕ)) (Terms : List Term → Type 0) (Others : List Value → Type 0) (are : AreRowsOf texts rows Terms)
    (there : (terms : List Term) → Terms terms → Others (map value_of terms))
    (back : (values : List Value) → Others values → (terms : List Term) × Terms terms × (map value_of terms ≡ values)) where
  -- where no row has a node, each row of values is one of texts, whose codes are there
  texts_of : LeastNode rows None → (values : List Value) → Others values
      → (cells : Row) × (values ≡ map Text cells) × ((own : List ℕ) × Contains rows own × interned.AreCodesOf texts own cells)
  texts_of none values other =
      let from = back values other in
      let own = are.back from.0 from.1 in
      let cells = constants_of texts from.0 own.0 own.2 (λ column has. none own.0 column own.1 has) in
      (cells.0, sym from.2 ∙ ap (map value_of) cells.1 ∙ map_value cells.0, (own.0, own.1, cells.2))

  -- and each row of codes is that of a row of values
  pub value_there : (own : List ℕ) (cells : Row) → Contains rows own → interned.AreCodesOf texts own cells → Others (map Text cells)
  value_there own cells inside codes =
      let from = are.there own inside in
      let constant = text_terms texts (are.few own inside) from.0 own cells from.2 codes in
      subst Others (ap (map value_of) constant ∙ map_value cells) (there from.0 from.1)

  pub first_node : (place column : ℕ) → column ≡ place + 1 → LeastNode rows (Some place) → IsFirstNodeColumn Others column
  first_node place column counted ((row, inside, (code, at, past)), least) =
      let from = are.there row inside in
      let term = term_at texts from.0 row from.2 place code at in
      elim term.2 [
        | inl (text, constant, at_text) ↦
            absurd (let within = slice_get_within texts code text at_text in let few = are.few row inside in omega (arith, within, few, past))
        | inr (node, plain, own) ↦ record {
          values = map value_of from.0;
          there = there from.0 from.1;
          node = (place, node, omega (arith, counted), map_at value_of from.0 place term.0 term.1 ∙ ap Some (ap value_of plain ∙ value_Plain node));
          least = at_least;
        }
      ]
    where
      at_least : (other : List Value) (lesser : ℕ) → Others other → HasNodeIn lesser other → column ≤ lesser
      at_least other lesser among (where_, node, count, here) =
          let from = back other among in
          let own = are.back from.0 from.1 in
          let term = map_at-from value_of from.0 where_ (Node node) (ap (λ those. slice_get those where_) from.2 ∙ here) in
          let code = zip_at (IsCodeOf texts) from.0 own.0 own.2 where_ term.0 term.1 in
          elim code.2 [
            | inl (text, constant, at_text) ↦ absurd (node_open term.0 node term.2 (text, constant))
            | inr (its, plain, is) ↦
                let low = least own.0 where_ own.1 (code.0, code.1, omega (arith, is)) in omega (arith, low, count, counted)
          ]

  -- what is shown of the rows are the rows of values as texts
  pub gives : (result : Result (List Row) AnswerError) → ShowsRows texts rows result → GivesTexts Others result
  gives (Ok shown) (none, same, rising) = record {
    exact = λ values. (
      (λ other. let found = texts_of none values other in (found.0, (same found.0).1 found.2, found.1)),
      (λ (row, inside, is). let own = (same row).0 inside in subst Others (sym is) (value_there own.0 row own.1 own.2)),
    );
    rising = rising;
  }
  gives (Err (NodeInRow column)) (place, counted, least) = first_node place column counted least
  gives (Err OutOfMemory) want = tt

  -- rows without a node are of texts alone
  pub judges_texts : LeastNode rows None → HaveTextsOnly Others
  judges_texts none values other = let found = texts_of none values other in (found.0, found.1)

  pub judges_node : (place : ℕ) (error : AnswerError) → NamesColumn place error → LeastNode rows (Some place) → JudgesRows Others (Err error)
  judges_node place (NodeInRow column) counted least = first_node place column counted least
  judges_node place OutOfMemory counted least = tt

  -- where the same rows are those of texts, the rows of values are these texts
  pub same_texts : (held : List (List ℕ)) (lists : List Row) → interned.AreCodedRows texts held lists
      → ((row : List ℕ) → Contains rows row ↔ Contains held row) → (values : List Value)
      → Others values ↔ ((cells : Row) × Contains lists cells × (values ≡ map Text cells))
  same_texts held lists codes same values = (forward, backward)
    where
      forward : Others values → (cells : Row) × Contains lists cells × (values ≡ map Text cells)
      forward other =
          let from = back values other in
          let own = are.back from.0 from.1 in
          let cells = coded_text texts held lists codes own.0 ((same own.0).0 own.1) in
          let constant = text_terms texts (are.few own.0 own.1) from.0 own.0 cells.0 own.2 cells.2 in
          (cells.0, cells.1, sym from.2 ∙ ap (map value_of) constant ∙ map_value cells.0)

      backward : (cells : Row) × Contains lists cells × (values ≡ map Text cells) → Others values
      backward (cells, inside, is) =
          let row = text_coded texts held lists codes cells inside in
          subst Others (sym is) (value_there row.0 cells ((same row.0).1 row.1) row.2)

  -- and the other way round, where no two texts are the same
  pub same_rows : AllPairs ◌≢◌ texts → (held : List (List ℕ)) (lists : List Row) → interned.AreCodedRows texts held lists
      → ((values : List Value) → Others values ↔ ((cells : Row) × Contains lists cells × (values ≡ map Text cells)))
      → (row : List ℕ) → Contains rows row ↔ Contains held row
  same_rows distinct held lists codes exact row = (forward, backward)
    where
      forward : Contains rows row → Contains held row
      forward inside =
          let from = are.there row inside in
          let cells = (exact (map value_of from.0)).0 (there from.0 from.1) in
          let other = text_coded texts held lists codes cells.0 cells.1 in
          let constant = row_of_texts from.0 cells.0 cells.2 in
          subst (Contains held)
          (one_codes texts distinct (map Const cells.0) other.0 row (text_codes texts other.0 cells.0 other.2)
          (subst (λ those. AreCodesOf texts those row) constant from.2)) other.1

      backward : Contains held row → Contains rows row
      backward inside =
          let cells = coded_text texts held lists codes row inside in
          let from = back (map Text cells.0) ((exact (map Text cells.0)).1 (cells.0, cells.1, refl)) in
          let own = are.back from.0 from.1 in
          let constant = row_of_texts from.0 cells.0 from.2 in
          subst (Contains rows)
          (one_codes texts distinct (map Const cells.0) own.0 row (subst (λ those. AreCodesOf texts those own.0) constant own.2)
          (text_codes texts row cells.0 cells.2)) own.1

-- ---- the answers of a union

module _ (facts : List (Fact Term)) (database : Database)
    (stand : (query : Query) → RowsStand value_of (IsAnswerInto Const (query_of query) (Contains facts)) (IsAnswer (query_of query) database))
    (queries : List Query) where
  pub union_there : (terms : List Term) → IsUnionRow queries facts terms → IsUnionAnswer (map query_of queries) database (map value_of terms)
  union_there terms (query, among, answer) = (query_of query, Contains-map query_of queries query among, (stand query).there terms answer)

  pub union_back : (values : List Value) → IsUnionAnswer (map query_of queries) database values
      → (terms : List Term) × IsUnionRow queries facts terms × (map value_of terms ≡ values)
  union_back values (query, among, answer) =
      let from = Contains-map_from query_of queries query among in
      let found = (stand from.0).back values (subst (λ (it : ConjunctiveQuery). IsAnswer it database values) (sym from.2) answer) in
      (found.0, (from.0, from.1, found.1), found.2)

-- ---- the loop over the queries of a union

-- where it stands: the rows are the answers of the queries so far
pub record UnionSoFar (old new : CodedData) (arity : ℕ) (rows : CodedRows) (queries : List Query) : Type 0 where
  pub stays : Stays old new
  pub wide : rows.arity ≡ arity
  pub are : (loaded : Loaded) → IsCodedOf loaded old → AreRowsOf new.facts.texts rows.rows (IsUnionRow queries loaded.facts)

pub union_start : (coded : CodedData) (arity : ℕ) (rows : CodedRows) → rows ≡ record { arity = arity; rows = [] } → UnionSoFar coded coded arity rows []
union_start coded arity rows is = record {
  stays = stays_itself coded;
  wide = ap (λ (it : CodedRows). it.arity) is;
  are = λ loaded its. subst (λ (it : CodedRows). AreRowsOf coded.facts.texts it.rows (IsUnionRow [] loaded.facts)) (sym is)
      (no_rows coded.facts.texts loaded.facts);
}

pub union_goes : (old middle new : CodedData) (arity : ℕ) (rows more : CodedRows) (queries : List Query) (count : ℕ) (query : Query)
    → count < length queries → query ≡ get_or queries count query → UnionSoFar old middle arity rows (take count queries) → Stays middle new
    → more.arity ≡ rows.arity
    → ((those : List Query) (loaded : Loaded) → IsCodedOf loaded middle → AreRowsOf middle.facts.texts rows.rows (IsUnionRow those loaded.facts)
    → AreRowsOf new.facts.texts more.rows (IsUnionRow (those ++ query ∷ []) loaded.facts))
    → UnionSoFar old new arity more (take (count + 1) queries)
union_goes old middle new arity rows more queries count query within read before step wide adds = record {
  stays = stays_on old middle new before.stays step;
  wide = wide ∙ before.wide;
  are = λ loaded its.
      subst (λ those. AreRowsOf new.facts.texts more.rows (IsUnionRow those loaded.facts)) (sym (take-item queries count query within read))
      (adds (take count queries) loaded (before.stays.kept loaded its) (before.are loaded its));
}

pub union_ends : (old new : CodedData) (arity : ℕ) (rows : CodedRows) (queries : List Query) (count : ℕ) → length queries ≤ count
    → UnionSoFar old new arity rows (take count queries) → (loaded : Loaded) → IsCodedOf loaded old
    → AreRowsOf new.facts.texts rows.rows (IsUnionRow queries loaded.facts)
union_ends old new arity rows queries count past before loaded its =
    subst (λ those. AreRowsOf new.facts.texts rows.rows (IsUnionRow those loaded.facts)) (take_all count queries past) (before.are loaded its)

-- rows that are those of terms
pub have_terms : (texts rows : List (List ℕ)) (Terms : List Term → Type 0) → AreRowsOf texts rows Terms → HaveTerms texts rows
have_terms texts rows Terms are row inside = let found = are.there row inside in (found.0, found.2)

-- ---- the least column with a node

pub no_node : (rows : List (List ℕ)) (place : Option ℕ) → ((it : ℕ) → place ≡ Some it → ⊥) → LeastNode rows place → LeastNode rows None
no_node rows None apart least = least
no_node rows (Some place) apart least = absurd (apart place refl)

pub shows_node : (texts rows : List (List ℕ)) (place : ℕ) (error : AnswerError) → NamesColumn place error → LeastNode rows (Some place)
    → ShowsRows texts rows (Err error)
shows_node texts rows place (NodeInRow column) counted least = (place, counted, least)
shows_node texts rows place OutOfMemory counted least = tt

-- ---- the first of the queries

pub first_one : (queries : List Query) (first : Option (Bor Query)) (query : Bor Query) → first ≡ Some query
    → option_copied first ≡ slice_get queries 0 → slice_get queries 0 ≡ Some query.now
first_one queries first query is told = sym told ∙ ap option_copied is

pub none_first : {X : Type 0} (things : List X) (thing : X) → None ≡ slice_get things 0 → Contains things thing → ⊥
none_first [] thing none inside = Contains-nil thing inside
none_first (first ∷ things) thing none inside = none-some first none
