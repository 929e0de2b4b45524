-- The rows of fragments' files stand in a list, so the answers of queries over the files do, and their text is there.
use Rattle.std.proofs.Common.{◌≡◌, inl, inr, ℕ, List, [], map, length, Contains, Some, None, Ok, Err, refl, sym, ◌∙◌, subst}
use Rattle.std.specs.Cmp.Lexicographic.{slice_cmp}
use Rattle.std.specs.Ordering.{nat_cmp}
use Rattle.std.proofs.lemmas.Option.{same_Some}
use Rattle.std.proofs.lemmas.Bool.{cases_eq}
use Rattle.esto_term.specs.declared.term.Term.{Term}
use Rattle.esto_term.proofs.ChoiceLemmas.{in_order}
use Rattle.esto_term.proofs.ListLemmas.{Contains-map, Contains-map_from}
use Rattle.esto_mapping.specs.Soundness.{AreShapes}
use Rattle.esto_mapping.specs.declared.catalogue.Catalogue.{Catalogue}
use Rattle.esto_docmodel.specs.declared.file.Shape.{Shape}
use Rattle.esto_docmodel.specs.declared.file.Store.{Store}
use Rattle.esto_docs.specs.Rows.{GivesRows, text_in}
use Rattle.esto_docs.proofs.RowLemmas.{text_constant}
use Rattle.esto_fill.proofs.OrderLemmas.{texts_exact, texts_total}
use Rattle.esto_run.specs.Fragments.{IsReadableFragment}
use Rattle.esto_run.specs.Readable.{AreReadable}
use Rattle.esto_ports.specs.Files.{Files}
use Rattle.esto_ports.specs.declared.file_fault.FileError.TheVariants.{Fault}
use Rattle.esto_query.specs.declared.query.Query.{Query}
use Rattle.esto_run.specs.Answers.{IsAnswersText, rows_text}
use Rattle.esto_run.specs.Laws.{IsAnswerOver, IsAnswerOfOne}
use Rattle.esto_docs.specs.Stores.{IsFileRow, IsRowIn, first_fault_in}
use Rattle.esto_semantics.specs.Facts.{image}
use Rattle.esto_semantics.specs.Maps.{AreFlat, IsFixedBy}
use Rattle.esto_semantics.specs.Queries.{ConjunctiveQuery}
use Rattle.esto_semantics.specs.declared.fact.Fact.{Fact}
use Rattle.esto_stores.specs.Rows.{Row}
use Rattle.esto_input_laws.specs.Totality.{HasOneOf}
use Rattle.esto_input_laws.specs.FileLaws.{StoredRowsAreTotal}
use Rattle.esto_top.proofs.AnswerLemmas.{answers_listed}
use Rattle.esto_term.proofs.DecisionLemmas.{same_list}
use Rattle.esto_top.proofs.ListedLemmas.{Listed, each_listed}

abbrev pub row_fact : ℕ → Row → Fact (List ℕ)
row_fact number row = record { relation = number; terms = row }

-- ---- the rows of the files of fragments

module _ (stored : StoredRowsAreTotal) (files : Files) (catalogue : Catalogue) (shapes : AreShapes catalogue.stores catalogue.fragments) (numbers : List ℕ)
    (contents : ℕ → List ℕ) (readable : AreReadable files catalogue numbers contents) where
  abbrev pub IsHeld : Fact (List ℕ) → Type 0
  IsHeld = IsFileRow catalogue.stores contents

  pub file_rows : (number : ℕ) → Contains numbers number → Listed (λ row. IsHeld (row_fact number row))
  file_rows number inside = by (readable number inside)
    where
      -- a file with no fault has a list of its rows
      clear : (shape : Shape) (view : Query) (bytes : List ℕ) → first_fault_in shape (length view.head) bytes ≡ None
          → HasOneOf (λ (rows : List Row). GivesRows (IsRowIn shape bytes) (first_fault_in shape (length view.head) bytes) (Ok rows))
          (λ fault. GivesRows (IsRowIn shape bytes) (first_fault_in shape (length view.head) bytes) (Err (Fault fault)))
          → Listed (IsRowIn shape bytes)
      clear shape view bytes good (inl (rows, given)) = (rows, given.1)
      clear shape view bytes good (inr (fault, is)) = let wrong : None ≡ Some fault = sym good ∙ is in absurd (cc)

      by : IsReadableFragment files catalogue number (contents number) → Listed (λ row. IsHeld (row_fact number row))
      by (own, at, has, good) =
          let fits = shapes number own.store own.definition at.store at.definition in
          let all = clear own.store.shape own.definition.view (contents number) good (stored own.store.shape own.definition.view fits (contents number)) in (
            all.0,
            λ row. (
              (λ there. (own.store, at.store, (all.1 row).0 there)),
              (λ (store, its, is). (all.1 row).1
                  (subst (λ (it : Store). IsRowIn it.shape (contents number) row) (same_Some store own.store (sym its ∙ at.store)) is)),
            ),
          )

  -- the facts of one fragment's file
  abbrev IsOf : ℕ → Fact (List ℕ) → Type 0
  IsOf number fact = (number ≡ fact.relation) × IsHeld fact

  facts_of : (number : ℕ) → Contains numbers number → Listed (IsOf number)
  facts_of number inside = by (file_rows number inside)
    where
      by : Listed (λ row. IsHeld (row_fact number row)) → Listed (IsOf number)
      by (rows, exact) = (
        map (row_fact number) rows,
        λ fact. (
          (λ there.
              let from = Contains-map_from (row_fact number) rows fact there in
              subst (IsOf number) from.2 (refl, (exact from.0).0 from.1)),
          (λ (is, held).
              let same : row_fact number fact.terms ≡ fact = λ i. record { relation = is i; terms = fact.terms } in
              subst (Contains (map (row_fact number) rows)) same
              (Contains-map (row_fact number) rows fact.terms ((exact fact.terms).1 (subst IsHeld (sym same) held)))),
        ),
      )

  file_facts : Listed (λ fact. (number : ℕ) × Contains numbers number × IsOf number fact)
  file_facts = each_listed IsOf numbers facts_of

  -- ---- answers

  pub file_answers : (query : ConjunctiveQuery) → AreFlat query.body → ((term : Term) → Contains query.head term → IsFixedBy query.body term)
      → ((atom : Fact Term) → Contains query.body atom → Contains numbers atom.relation) → Listed (IsAnswerOver IsHeld query)
  file_answers query flat safe uses =
      let facts = file_facts in
      let all = answers_listed (λ text. text) (text_in []) (text_constant []) (same_list cases_eq) query flat safe facts.0 in (
        all.0,
        λ row. (
          (λ inside.
              let (m, keeps, sends, is) = (all.1 row).0 inside in
              (m, keeps, (λ atom there. ((facts.1 (image m atom)).0 (sends atom there)).2.1), is)),
          (λ (m, keeps, sends, is).
              (all.1 row).1 (m, keeps, (λ atom there. (facts.1 (image m atom)).1 (atom.relation, uses atom there, (refl, sends atom there))), is)),
        ),
      )

  pub union_answers : (queries : List ConjunctiveQuery)
      → ((query : ConjunctiveQuery) → Contains queries query
      → AreFlat query.body × ((term : Term) → Contains query.head term → IsFixedBy query.body term)
      × ((atom : Fact Term) → Contains query.body atom → Contains numbers atom.relation))
      → Listed (IsAnswerOfOne IsHeld queries)
  union_answers queries each = each_listed (IsAnswerOver IsHeld) queries (λ query inside.
      let own = each query inside in file_answers query own.0 own.1 own.2)

-- rows that stand in a list have their text
pub answers_text : (query : Query) (Has : Row → Type 0) → Listed Has → (text : List ℕ) × IsAnswersText query Has text
answers_text query Has (rows, exact) =
    let ordered = in_order (slice_cmp (slice_cmp nat_cmp)) texts_total rows (λ row other one two. texts_exact row other) in (
      rows_text query ordered.0,
      record {
        rows = ordered.0;
        exact = λ row. ((λ inside. (exact row).0 ((ordered.1 row).0 inside)), (λ has. (ordered.1 row).1 ((exact row).1 has)));
        rising = ordered.2;
        printed = refl;
      },
    )
