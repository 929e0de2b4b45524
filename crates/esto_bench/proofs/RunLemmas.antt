-- The made rows as contents of files, and the query's answers over them.
use Rattle.std.proofs.Common.{◌≡◌, ◌≢◌, ◌↔◌, ◌<◌, ◌+◌, ◌*◌, ◌/◌, ℕ, List, [], ◌∷◌, ◌++◌, map, length, slice_get, Some, None, Contains, All, AllPairs, Err}
use Rattle.std.proofs.Common.{sym, ap, subst, ◌∙◌, inl, inr, arith, get_or}
use Rattle.std.specs.Prelude.{codes, IfSome}
use Rattle.std.specs.Cmp.Lexicographic.{slice_cmp}
use Rattle.std.specs.Ordering.{nat_cmp}
use Rattle.std.specs.declared.cmp.Ordering.TheVariants.{Less}
use Rattle.std.proofs.lemmas.Cmp.{lists_total, nat_cmp_total}
use Rattle.esto_term.proofs.ChoiceLemmas.{not_less_itself}
use Rattle.std.proofs.lemmas.List.{length-map}
use Rattle.std.proofs.lemmas.List.Elements.{All-from_get_or, Contains-get_or}
use Rattle.std.proofs.lemmas.Option.{slice_get_within}
use Rattle.esto_mapping.specs.declared.catalogue.Catalogue.{Catalogue}
use Rattle.esto_docmodel.specs.declared.file.Shape.TheVariants.{Table}
use Rattle.esto_docmodel.specs.declared.file.Store.{Store}
use Rattle.esto_ports.specs.FileFaults.{Gives}
use Rattle.esto_list.specs.declared.listing.Listed.{Listed}
use Rattle.esto_steps.specs.Rows.{IsRowOf, held_by}
use Rattle.esto_ports.specs.declared.file_fault.FileError.{FileError}
use Rattle.esto_ports.specs.declared.file_fault.FileError.TheVariants.{Fault}
use Rattle.esto_ports.specs.declared.file_fault.FileFault.{FileFault}
use Rattle.esto_run.specs.Answers.{AreRising}
use Rattle.esto_run.specs.Laws.{AnswersAreOverFiles, FilesHoldViewRows, IsAnswerOver, RewritingsAnswerQueries}
use Rattle.esto_run.specs.Opened.{AreOpened, AreRowsFor, Held, rows_held}
use Rattle.esto_docs.specs.Stores.{IsFileRow, IsRowIn, first_fault_in}
use Rattle.esto_semantics.specs.Listed.{candidate}
use Rattle.esto_semantics.specs.ListedLaws.{ChosenAreNamed}
use Rattle.esto_semantics.specs.Queries.{IsAnswer}
use Rattle.esto_semantics.specs.declared.fact.Fact.{Fact}
use Rattle.esto_semantics.specs.declared.fact.Value.{Value}
use Rattle.esto_semantics.specs.declared.fact.Value.TheVariants.{Text}
use Rattle.esto_semantics.proofs.ValueLemmas.{same_texts}
use Rattle.esto_stores.specs.Rows.{Row}
use Rattle.esto_stores.specs.Table.{table_rows, table_fault}
use Rattle.esto_term.proofs.DistinctLemmas.{distinct_map}
use Rattle.esto_term.proofs.ListLemmas.{Contains-at, Contains-map, Contains-map_from, Contains-nil, thing_at}
use Rattle.esto_term.proofs.PlaceLemmas.{earlier_or_last}
use Rattle.esto_term.specs.declared.term.Term.{Term}
use Rattle.esto_views.specs.Plans.{fact_of, plan_query, IsPlanOver}
use Rattle.esto_views.specs.declared.fragments.FragmentDef.{FragmentDef}
use Rattle.esto_views.specs.declared.plan.Plan.{Plan}
use Rattle.esto_bench.specs.Case.{IsMadeCatalogue, below, made_columns, made_database, made_patterns, made_query, made_row, made_rows, made_store, made_views}
use Rattle.esto_bench.specs.Case.{numbered}
use Rattle.esto_bench.specs.declared.rows.TheConstants.{ROWS}
use Rattle.esto_bench.specs.Made.{AreOpenedBelow, CountsAnswers, IsItemOfCase, made_content}
use Rattle.esto_bench.proofs.BothLemmas.{below_more, below_there, both_from, both_long, mapped_from}
use Rattle.esto_bench.proofs.ViewLemmas.{view_rows}

-- ---- one content

-- the made rows have a cell for each column
pub rows_wide : (relation : ℕ) → All (λ (row : Row). length row ≡ length made_columns) (made_rows relation)
rows_wide relation =
    All-from_get_or (λ (row : Row). length row ≡ length made_columns) (made_rows relation) []
    (λ place within. wide _ (Contains-get_or (made_rows relation) place [] within))
  where
    wide : (row : Row) → Contains (made_rows relation) row → length row ≡ length made_columns
    wide row inside = ap length (mapped_from (made_row relation) ROWS row inside).2

module _ (size : ℕ) (catalogue : Catalogue) (made : IsMadeCatalogue size catalogue) where
  pub fragments_long : length catalogue.fragments ≡ 2 * size
  fragments_long =
      sym (length-map catalogue.fragments (λ (it : FragmentDef). it.name)) ∙ ap length made.names
      ∙ both_long (numbered (codes "A")) (numbered (codes "B")) size

  stores_long : length catalogue.stores ≡ 2 * size
  stores_long = ap length made.stores ∙ both_long (made_store (codes "A")) (made_store (codes "B")) size

  shape_is : (number : ℕ) (store : Store) → slice_get catalogue.stores number ≡ Some store → store.shape ≡ Table made_columns
  shape_is number store there =
      let found = both_from (made_store (codes "A")) (made_store (codes "B")) size store
      (subst (λ it. Contains it store) made.stores (Contains-at catalogue.stores number store there)) in
      elim found.2 [ inl is ↦ ap (λ (it : Store). it.shape) is | inr is ↦ ap (λ (it : Store). it.shape) is ]

  -- a content without a fault is opened
  pub no_fault : (number : ℕ) → number < 2 * size → (bytes : List ℕ) (fault : FileFault) → table_fault made_columns bytes ≡ None
      → (error : FileError) → error ≡ Fault fault
      → IfSome (slice_get catalogue.fragments number) (λ fragment. IfSome (slice_get catalogue.stores number) (λ store.
      Gives {A = Unit {0}} tt (first_fault_in store.shape (length fragment.view.head) bytes) (Err error)))
      → ⊥
  no_fault number within bytes fault none error is gives =
      let long = fragments_long in
      let stored = stores_long in
      let fragment = thing_at catalogue.fragments number (omega (arith, within, long)) in
      let store = thing_at catalogue.stores number (omega (arith, within, stored)) in
      let at_fragment = subst (λ it. IfSome it (λ fragment. IfSome (slice_get catalogue.stores number) (λ store.
      Gives {A = Unit {0}} tt (first_fault_in store.shape (length fragment.view.head) bytes) (Err error)))) fragment.1 gives in
      let at_store = subst (λ it. IfSome it (λ store.
      Gives {A = Unit {0}} tt (first_fault_in store.shape (length fragment.0.view.head) bytes) (Err error))) store.1 at_fragment in
      let at_shape = subst (λ it. Gives {A = Unit {0}} tt (first_fault_in it (length fragment.0.view.head) bytes) (Err error))
      (shape_is number store.0 store.1) at_store in
      let found : table_fault made_columns bytes ≡ Some fault =
      subst (λ it. Gives {A = Unit {0}} tt (first_fault_in (Table made_columns) (length fragment.0.view.head) bytes) (Err it)) is at_shape in
      clash (sym none ∙ found)
    where
      clash : None ≡ Some fault → ⊥
      clash same = cc

  -- one content more
  pub opened_more : (number : ℕ) (bytes : List ℕ) (old new : List Held) → bytes ≡ made_content number
      → table_rows made_columns bytes ≡ made_rows (number / 2) → AreOpenedBelow catalogue number old → AreRowsFor catalogue.fragments new
      → ((files : ℕ → List ℕ) (numbers : List ℕ) → files number ≡ bytes → AreOpened catalogue.stores files numbers (rows_held old)
      → AreOpened catalogue.stores files (numbers ++ number ∷ []) (rows_held new))
      → AreOpenedBelow catalogue (number + 1) new
  opened_more number bytes old new is say before rows opens = record {
    rows = rows;
    of_contents = subst (λ it. AreOpened catalogue.stores made_content it (rows_held new)) (sym (below_more number))
        (opens made_content (below number) (sym is) before.of_contents);
    say = λ fragment within. elim (earlier_or_last fragment number within) [
      | inl earlier ↦ before.say fragment earlier
      | inr last ↦ subst (λ (it : ℕ). table_rows made_columns (made_content it) ≡ made_rows (it / 2)) (sym last)
          (ap (table_rows made_columns) (sym is) ∙ say)
    ];
  }

-- ---- the answers

-- rows that rise are apart
pub rising_apart : (rows : List Row) → AreRising rows → AllPairs ◌≢◌ rows
rising_apart rows rises place other fill there within same =
    not_less_itself (slice_cmp (slice_cmp nat_cmp)) (lists_total (lists_total nat_cmp_total)) (get_or rows place fill)
    (subst (λ it. slice_cmp (slice_cmp nat_cmp) (get_or rows place fill) it ≡ Less) (sym same) (rises place other fill there within))

module _ (over_files : AnswersAreOverFiles) (answers : RewritingsAnswerQueries) (named : ChosenAreNamed) (size : ℕ) (catalogue : Catalogue)
    (made : IsMadeCatalogue size catalogue) (plan : Plan) (over : IsPlanOver plan catalogue.fragments) (item : Listed)
    (is_item : IsItemOfCase size plan item) (opened : List Held) (are : AreOpenedBelow catalogue (2 * size) opened) where
  relation_below : (atom : Fact Term) → Contains (candidate (plan_query plan) item.set).body atom → atom.relation < 2 * size
  relation_below atom inside =
      let chosen_at = (named item.set (plan_query plan).body atom).0 inside in
      let found = Contains-map_from fact_of plan.atoms atom (Contains-at (plan_query plan).body chosen_at.0 atom chosen_at.2) in
      let its = over found.0 found.1 in
      let within = slice_get_within catalogue.fragments found.0.fragment its.0 its.1 in
      let long = fragments_long size catalogue made in
      let same : found.0.fragment ≡ atom.relation = ap (λ (it : Fact Term). it.relation) found.2 in
      omega (arith, within, long, same)

  file_row : (fragment : ℕ) → fragment < 2 * size → (row : Row)
      → IsFileRow catalogue.stores made_content (record { relation = fragment; terms = row }) ↔ Contains (made_rows (fragment / 2)) row
  file_row fragment within row = (
    (λ (store, there, inside). subst (λ it. Contains it row) (are.say fragment within)
        (subst (λ it. IsRowIn it (made_content fragment) row) (shape_is size catalogue made fragment store there) inside)),
    (λ inside. let long = stores_long size catalogue made in
        let store = thing_at catalogue.stores fragment (omega (arith, within, long)) in (
          store.0,
          store.1,
          subst (λ it. IsRowIn it (made_content fragment) row) (sym (shape_is size catalogue made fragment store.0 store.1))
              (subst (λ it. Contains it row) (sym (are.say fragment within)) inside),
        )),
  )

  hold : FilesHoldViewRows (made_views size) (made_database size) (candidate (plan_query plan) item.set) catalogue.stores made_content
  hold fact atom inside same =
      let within : fact.relation < 2 * size = subst (λ (it : ℕ). it < 2 * size) same (relation_below atom inside) in
      let rows = view_rows size fact within in (
        (λ is_row. let found = rows.0 is_row in (found.0, (file_row fact.relation within found.0).1 found.1, found.2)),
        (λ (row, in_file, is). rows.1 (row, (file_row fact.relation within row).0 in_file, is)),
      )

  -- the rows that the candidate gives are counted as the query's answers
  pub counted : (rows : List Row)
      → ((row : Row) → Contains rows row ↔ IsAnswerOver (IsRowOf (held_by (rows_held opened))) (candidate (plan_query plan) item.set) row)
      → AllPairs ◌≢◌ rows → CountsAnswers size (length rows)
  counted rows exact once = (
    map (map Text) rows,
    distinct_map (map Text) rows (λ row other inside other_inside same. same_texts row other same) once,
    (λ values. (
      (λ inside. let found = Contains-map_from (map Text) rows values inside in
          (law values).1 (found.0, sym found.2, (files found.0).0 ((exact found.0).0 found.1))),
      (λ answer. let found = (law values).0 answer in
          subst (Contains (map (map Text) rows)) (sym found.1)
          (Contains-map (map Text) rows found.0 ((exact found.0).1 ((files found.0).1 found.2)))),
    )),
    sym (length-map rows (map Text)),
  )
    where
      law : (values : List Value) → IsAnswer (made_query size) (made_database size) values
          ↔ ((row : Row) × (values ≡ map Text row)
          × IsAnswerOver (IsFileRow catalogue.stores made_content) (candidate (plan_query plan) item.set) row)
      law values =
          answers [] (made_views size) (made_patterns size) (made_query size) (plan_query plan) item.set catalogue.stores made_content (made_database size)
          is_item.set.0 (λ rule inside. absurd (Contains-nil rule inside)) hold values

      files : (row : Row) → IsAnswerOver (IsRowOf (held_by (rows_held opened))) (candidate (plan_query plan) item.set) row
          ↔ IsAnswerOver (IsFileRow catalogue.stores made_content) (candidate (plan_query plan) item.set) row
      files row = over_files catalogue.stores made_content (below (2 * size)) (rows_held opened) (candidate (plan_query plan) item.set) are.of_contents
          (λ atom inside. below_there (2 * size) atom.relation (relation_below atom inside)) row
