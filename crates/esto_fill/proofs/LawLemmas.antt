-- What files, answers, views and filled files come to is one.
use Rattle.std.proofs.Common.{◌≡◌, ◌≢◌, inl, inr, ℕ, ◌+◌, List, [], ◌∷◌, ◌++◌, map, None, Some, slice_get, refl, sym, ap, ◌∙◌, subst, arith}
use Rattle.std.specs.Prelude.{Result, Ok, Err}
use Rattle.std.proofs.lemmas.Bool.{cases_order}
use Rattle.std.proofs.lemmas.Option.{get_or_from_slice_get, none-some, same_Some, slice_get_within}
use Rattle.esto_mapping.specs.Catalogues.{shape_as, stored_as}
use Rattle.esto_docmodel.specs.declared.file.Shape.{Shape}
use Rattle.esto_docmodel.specs.declared.file.Shape.TheVariants.{Table, Documents, Keys}
use Rattle.esto_docmodel.specs.declared.file.Store.{Store}
use Rattle.esto_mapping.specs.declared.dataset.Dataset.{Dataset}
use Rattle.esto_docmodel.specs.declared.words.DataModel.{DataModel}
use Rattle.esto_docmodel.specs.Shapes.{entries_of}
use Rattle.esto_docs.specs.Documents.{document, documents_text}
use Rattle.esto_relmodel.specs.Once.{StandsBefore, AreEachOnce}
use Rattle.esto_relmodel.specs.RowFacts.{row_fact, AreRowFacts}
use Rattle.esto_rows.proofs.RisingLemmas.{one_by_before}
use Rattle.esto_rows.specs.Lent.{RisingRowsAreOne}
use Rattle.esto_semantics.specs.Facts.{Database}
use Rattle.esto_semantics.specs.Queries.{ConjunctiveQuery, IsAnswer}
use Rattle.esto_semantics.specs.Unions.{IsUnionAnswer}
use Rattle.esto_semantics.specs.declared.fact.Fact.{Fact}
use Rattle.esto_semantics.specs.declared.fact.Value.{Value}
use Rattle.esto_semantics.specs.declared.fact.Value.TheVariants.{Text, Node}
use Rattle.esto_stores.specs.KeyText.{row_fault}
use Rattle.esto_stores.specs.Rows.{Row}
use Rattle.esto_stores.specs.TableText.{table_text}
use Rattle.esto_term.specs.declared.term.Term.{Term}
use Rattle.esto_term.proofs.ListLemmas.{Contains-at, map_at-from}
use Rattle.esto_fill.specs.Files.{nodes_in, AreFactsByModel, AreFactsOf, AreFactsFrom, dataset_fault}
use Rattle.esto_fill.specs.Filled.{CanHold, Fills, IsFirstUnfit, text_in, with_mark}
use Rattle.esto_fill.specs.Laws.{FactsAreOne, FaultsAreOne, ReadableHaveNone, AnswersAreOne, UnionAnswersAreOne, JudgementsAreOne, FillsAreOne}
use Rattle.esto_fill.specs.Texts.{AreExactly, AreTextsOf, AreTextViews, GivesTexts, HasNodeIn, HaveTextsOnly, IsFirstNodeColumn, IsFirstNodeView, IsTextRow}
use Rattle.esto_fill.specs.declared.datasets.DatasetBytes.{DatasetBytes}
use Rattle.esto_fill.specs.declared.filled.FillError.{FillError}
use Rattle.esto_fill.specs.declared.filled.FillError.TheVariants as filled
use Rattle.esto_fill.specs.declared.rows.AnswerError.{AnswerError}
use Rattle.esto_fill.specs.declared.rows.AnswerError.TheVariants as answer
use Rattle.esto_fill.proofs.FilledLemmas.{in_rows}

-- ---- facts and faults

-- things that stand before one another in one list do so one way alone
before_itself : {X : Type 0} (things : List X) (thing : X) → StandsBefore things thing thing → ⊥
before_itself things thing (place, there, first) = let wrong = first place there in omega (arith, wrong)

before_both : {X : Type 0} (things : List X) (one other : X) → StandsBefore things one other → StandsBefore things other one → ⊥
before_both things one other (place, there, first) (its, at_its, second) =
    let less = first its at_its in let more = second place there in omega (arith, less, more)

pub once_one : {X : Type 0} (things kept others : List X) → AreEachOnce things kept → AreEachOnce things others → kept ≡ others
once_one things kept others once too =
    one_by_before (StandsBefore things) kept others (λ x inside. before_itself things x) (λ x y inside there. before_both things x y) once.in_order too.in_order
    (λ z. ((λ inside. (too.same z).1 ((once.same z).0 inside)), (λ inside. (once.same z).1 ((too.same z).0 inside))))

pub row_facts_one : (relation : ℕ) (rows : List Row) (facts others : List (Fact Term)) → AreRowFacts relation rows facts → AreRowFacts relation rows others
    → facts ≡ others
row_facts_one relation rows facts others (kept, once, is) (its, too, are) = is ∙ ap (map (row_fact relation)) (once_one rows kept its once too) ∙ sym are

file_facts_one : (model : DataModel) (dataset : Dataset) (bytes : List ℕ) (first : ℕ) (facts others : List (Fact Term))
    → AreFactsByModel model dataset bytes first facts → AreFactsByModel model dataset bytes first others → facts ≡ others
file_facts_one DataModel.Table dataset bytes first facts others one other = row_facts_one dataset.base _ facts others one other
file_facts_one DataModel.Documents dataset bytes first facts others one other = one ∙ sym other
file_facts_one DataModel.Keys dataset bytes first facts others one other = row_facts_one dataset.base _ facts others one other

pub facts_are_one : FactsAreOne
facts_are_one datasets first [] facts others next other (empty, ends) (too, ends_too) = (empty ∙ sym too, ends ∙ sym ends_too)
facts_are_one datasets first (file ∷ files) facts others next other (dataset, own, rest, there, are, from, whole) (its, mine, more, at_its, is, after, all) =
    let same : dataset ≡ its = same_Some dataset its (sym there ∙ at_its) in
    let one : own ≡ mine = file_facts_one dataset.model dataset file.bytes first own mine are
    (subst (λ (it : Dataset). AreFactsOf it file.bytes first mine) (sym same) is) in
    let two = facts_are_one datasets (first + nodes_in dataset file.bytes) files rest more next other from
    (subst (λ (it : Dataset). AreFactsFrom datasets (first + nodes_in it file.bytes) files more other) (sym same) after) in
    (whole ∙ ap (λ those. those ++ rest) one ∙ ap (λ those. mine ++ those) two.0 ∙ sym all, two.1)

pub faults_are_one : FaultsAreOne
faults_are_one datasets files number other fault cause one two = elim (cases_order one.place two.place) [
  | inl is ↦
      let files_same : one.file ≡ two.file = same_Some one.file two.file (sym one.there ∙ ap (slice_get files) is ∙ two.there) in
      let numbers : number ≡ other = sym one.same ∙ ap (λ (it : DatasetBytes). it.dataset) files_same ∙ two.same in
      let datasets_same : one.dataset ≡ two.dataset = same_Some one.dataset two.dataset (sym one.is ∙ ap (slice_get datasets) numbers ∙ two.is) in (
        numbers,
        same_Some fault cause (sym one.at_fault ∙ ap (λ (it : Dataset). dataset_fault it one.file.bytes) datasets_same
            ∙ ap (λ (it : DatasetBytes). dataset_fault two.dataset it.bytes) files_same ∙ two.at_fault),
      )
  | inr (inl less) ↦ absurd (none-some fault (sym (two.before one.place one.file one.dataset less one.there (ap (slice_get datasets) one.same ∙ one.is))
      ∙ one.at_fault))
  | inr (inr more) ↦ absurd (none-some cause (sym (one.before two.place two.file two.dataset more two.there (ap (slice_get datasets) two.same ∙ two.is))
      ∙ two.at_fault))
]

pub readable_have_none : ReadableHaveNone
readable_have_none datasets files number fault readable first =
    none-some fault (sym (readable first.place first.file first.dataset first.there (ap (slice_get datasets) first.same ∙ first.is)) ∙ first.at_fault)

-- ---- rows of texts

node_no_text : (column : ℕ) (values : List Value) → IsTextRow values → HasNodeIn column values → ⊥
node_no_text column values (row, is) (place, node, counted, there) =
    let from = map_at-from Text row place (Node node) (sym (ap (λ those. slice_get those place) is) ∙ there) in
    let wrong : Text from.0 ≡ Node node = from.2 in absurd (cc)

-- rows of texts hold no node
pub texts_no_node : (Rows : List Value → Type 0) (column : ℕ) → HaveTextsOnly Rows → IsFirstNodeColumn Rows column → ⊥
texts_no_node Rows column texts first = node_no_text column first.values (texts first.values first.there) first.node

-- the least column with a node is one
pub columns_one : (Rows : List Value → Type 0) (column other : ℕ) → IsFirstNodeColumn Rows column → IsFirstNodeColumn Rows other → column ≡ other
columns_one Rows column other one two =
    let low = one.least two.values other two.there two.node in
    let high = two.least one.values column one.there one.node in
    omega (arith, low, high)

exact_only : (Rows : List Value → Type 0) (rows : List Row) → AreExactly Rows rows → HaveTextsOnly Rows
exact_only Rows rows exact values there = let found = (exact values).0 there in (found.0, found.2)

lists_one : (law : RisingRowsAreOne) (Rows : List Value → Type 0) (rows others : List Row) → AreTextsOf Rows rows → AreTextsOf Rows others → rows ≡ others
lists_one law Rows rows others one two = law rows others one.rising two.rising (λ row. (
  (λ inside. (in_rows Rows others two.exact row).1 ((in_rows Rows rows one.exact row).0 inside)),
  (λ inside. (in_rows Rows rows one.exact row).1 ((in_rows Rows others two.exact row).0 inside)),
))

texts_one : (law : RisingRowsAreOne) (Rows : List Value → Type 0) (result other : Result (List Row) AnswerError) → GivesTexts Rows result
    → GivesTexts Rows other → result ≢ Err answer.OutOfMemory → other ≢ Err answer.OutOfMemory → result ≡ other
texts_one law Rows (Ok rows) (Ok others) one two said too = ap Ok (lists_one law Rows rows others one two)
texts_one law Rows (Ok rows) (Err (answer.NodeInRow column)) one two said too = absurd (texts_no_node Rows column (exact_only Rows rows one.exact) two)
texts_one law Rows (Err (answer.NodeInRow column)) (Ok rows) one two said too = absurd (texts_no_node Rows column (exact_only Rows rows two.exact) one)
texts_one law Rows (Err (answer.NodeInRow column)) (Err (answer.NodeInRow other)) one two said too =
    ap (λ n. Err (answer.NodeInRow n)) (columns_one Rows column other one two)
texts_one law Rows (Ok rows) (Err answer.OutOfMemory) one two said too = absurd (too refl)
texts_one law Rows (Err (answer.NodeInRow column)) (Err answer.OutOfMemory) one two said too = absurd (too refl)
texts_one law Rows (Err answer.OutOfMemory) other one two said too = absurd (said refl)

pub answers_are_one : (law : RisingRowsAreOne) → AnswersAreOne
answers_are_one law query database result other one two said too = texts_one law (IsAnswer query database) result other one two said too

pub union_answers_are_one : (law : RisingRowsAreOne) → UnionAnswersAreOne
union_answers_are_one law queries database result other one two said too = texts_one law (IsUnionAnswer queries database) result other one two said too

pub views_no_node : (views : List ConjunctiveQuery) (database : Database) (column : ℕ) → AreTextViews views database → IsFirstNodeView views database column → ⊥
views_no_node views database column texts node =
    texts_no_node (IsAnswer node.view database) column (texts node.view (Contains-at views node.number node.view node.there)) node.first

pub views_one : (views : List ConjunctiveQuery) (database : Database) (column other : ℕ) → IsFirstNodeView views database column
    → IsFirstNodeView views database other → column ≡ other
views_one views database column other one two = elim (cases_order one.number two.number) [
  | inl is ↦
      let same : one.view ≡ two.view = same_Some one.view two.view (sym one.there ∙ ap (slice_get views) is ∙ two.there) in
      columns_one (IsAnswer two.view database) column other (subst (λ (it : ConjunctiveQuery). IsFirstNodeColumn (IsAnswer it database) column) same one.first)
      two.first
  | inr (inl less) ↦ absurd (texts_no_node (IsAnswer one.view database) column (two.before one.number one.view less one.there) one.first)
  | inr (inr more) ↦ absurd (texts_no_node (IsAnswer two.view database) other (one.before two.number two.view more two.there) two.first)
]

pub judgements_are_one : JudgementsAreOne
judgements_are_one views database (Ok done) (Ok too) one two said also = refl
judgements_are_one views database (Ok done) (Err (answer.NodeInRow column)) one two said also = absurd (views_no_node views database column one two)
judgements_are_one views database (Err (answer.NodeInRow column)) (Ok done) one two said also = absurd (views_no_node views database column two one)
judgements_are_one views database (Err (answer.NodeInRow column)) (Err (answer.NodeInRow other)) one two said also =
    ap (λ n. Err (answer.NodeInRow n)) (views_one views database column other one two)
judgements_are_one views database (Ok done) (Err answer.OutOfMemory) one two said also = absurd (also refl)
judgements_are_one views database (Err (answer.NodeInRow column)) (Err answer.OutOfMemory) one two said also = absurd (also refl)
judgements_are_one views database (Err answer.OutOfMemory) other one two said also = absurd (said refl)

-- ---- a filled file

all_fit : (shape : Shape) (rows : List Row) → shape ≡ Keys → CanHold shape rows → (place : ℕ) (row : Row) → slice_get rows place ≡ Some row
    → row_fault row ≡ None
all_fit shape rows keys can place row there =
    let all = subst (λ (it : Shape). CanHold it rows) keys can in
    ap row_fault (sym (get_or_from_slice_get rows place row [] there)) ∙ all place [] (slice_get_within rows place row there)

cells_one : (rows : List Row) (cell other : List ℕ) → IsFirstUnfit rows cell → IsFirstUnfit rows other → cell ≡ other
cells_one rows cell other one two = elim (cases_order one.place two.place) [
  | inl is ↦
      let same : one.row ≡ two.row = same_Some one.row two.row (sym one.there ∙ ap (slice_get rows) is ∙ two.there) in
      let columns : one.column ≡ two.column = same_Some one.column two.column (sym one.fault ∙ ap row_fault same ∙ two.fault) in
      same_Some cell other (sym one.is ∙ ap (λ those. slice_get those one.column) same ∙ ap (slice_get two.row) columns ∙ two.is)
  | inr (inl less) ↦ absurd (none-some one.column (sym (two.before one.place one.row less one.there) ∙ one.fault))
  | inr (inr more) ↦ absurd (none-some two.column (sym (one.before two.place two.row more two.there) ∙ two.fault))
]

module _ (law : RisingRowsAreOne) (shape : Shape) (Rows : List Value → Type 0) where
  fits_unfit : (rows others : List Row) (cell : List ℕ) → AreTextsOf Rows rows → CanHold shape rows → shape ≡ Keys → AreTextsOf Rows others
      → IsFirstUnfit others cell → ⊥
  fits_unfit rows others cell are can keys too first =
      let same = lists_one law Rows rows others are too in
      none-some first.column (sym (all_fit shape others keys (subst (CanHold shape) same can) first.place first.row first.there) ∙ first.fault)

  pub filled_one : (result other : Result (List ℕ) FillError) → Fills shape Rows result → Fills shape Rows other → result ≢ Err filled.OutOfMemory
      → other ≢ Err filled.OutOfMemory → result ≡ other
  filled_one (Ok text) (Ok other) (rows, are, can, is) (others, too, also, its) said told =
      ap Ok (is ∙ ap (λ those. with_mark (text_in shape those)) (lists_one law Rows rows others are too) ∙ sym its)
  filled_one (Ok text) (Err (filled.NodeInRow column)) (rows, are, can, is) two said told =
      absurd (texts_no_node Rows column (exact_only Rows rows are.exact) two)
  filled_one (Err (filled.NodeInRow column)) (Ok text) one (rows, are, can, is) said told =
      absurd (texts_no_node Rows column (exact_only Rows rows are.exact) one)
  filled_one (Ok text) (Err (filled.KeyText cell)) (rows, are, can, is) (keys, (others, too, first)) said told =
      absurd (fits_unfit rows others cell are can keys too first)
  filled_one (Err (filled.KeyText cell)) (Ok text) (keys, (others, too, first)) (rows, are, can, is) said told =
      absurd (fits_unfit rows others cell are can keys too first)
  filled_one (Err (filled.NodeInRow column)) (Err (filled.NodeInRow other)) one two said told =
      ap (λ n. Err (filled.NodeInRow n)) (columns_one Rows column other one two)
  filled_one (Err (filled.NodeInRow column)) (Err (filled.KeyText cell)) one (keys, (rows, are, first)) said told =
      absurd (texts_no_node Rows column (exact_only Rows rows are.exact) one)
  filled_one (Err (filled.KeyText cell)) (Err (filled.NodeInRow column)) (keys, (rows, are, first)) two said told =
      absurd (texts_no_node Rows column (exact_only Rows rows are.exact) two)
  filled_one (Err (filled.KeyText cell)) (Err (filled.KeyText other)) (keys, (rows, are, first)) (too, (others, also, its)) said told =
      ap (λ it. Err (filled.KeyText it))
      (cells_one others cell other (subst (λ those. IsFirstUnfit those cell) (lists_one law Rows rows others are also) first) its)
  filled_one (Ok text) (Err filled.OutOfMemory) one two said told = absurd (told refl)
  filled_one (Err (filled.NodeInRow column)) (Err filled.OutOfMemory) one two said told = absurd (told refl)
  filled_one (Err (filled.KeyText cell)) (Err filled.OutOfMemory) one two said told = absurd (told refl)
  filled_one (Err filled.OutOfMemory) other one two said told = absurd (said refl)

-- shapes that say the same have the same texts, and can hold the same rows
module _ (file its_file : List ℕ) (rows : List Row) where
  abbrev Alike : Shape → Shape → Type 0
  Alike shape its = (text_in its rows ≡ text_in shape rows) × (CanHold its rows → CanHold shape rows) × (its ≡ Keys → shape ≡ Keys)

  alike : (shape its : Shape) → shape_as shape file ≡ shape_as its its_file → Alike shape its
  alike (Table columns) (Table others) same =
      let one : columns ≡ others = cc in (ap (λ those. table_text those rows) (sym one), (λ can. tt), (λ keys. absurd (cc)))
  alike (Table columns) (Documents layout pattern) same = absurd (cc)
  alike (Table columns) Keys same = absurd (cc)
  alike (Documents layout pattern) (Table columns) same = absurd (cc)
  alike (Documents layout pattern) (Documents other its) same =
      let one : layout ≡ other = cc in
      let entries : entries_of pattern.entries ≡ entries_of its.entries = cc in (
        ap (λ those. documents_text those (map (document (entries_of its.entries)) rows)) (sym one)
            ∙ ap (λ those. documents_text layout (map (document those) rows)) (sym entries),
        (λ can. tt),
        (λ keys. absurd (cc)),
      )
  alike (Documents layout pattern) Keys same = absurd (cc)
  alike Keys (Table columns) same = absurd (cc)
  alike Keys (Documents layout pattern) same = absurd (cc)
  alike Keys Keys same = (refl, (λ can. can), (λ keys. keys))

fills_alike : (store its : Store) (Rows : List Value → Type 0) (result : Result (List ℕ) FillError) → stored_as store ≡ stored_as its
    → Fills its.shape Rows result → Fills store.shape Rows result
fills_alike store its Rows (Ok text) same (rows, are, can, is) =
    let both = alike store.file its.file rows store.shape its.shape same in (rows, are, both.1 can, is ∙ ap with_mark both.0)
fills_alike store its Rows (Err (filled.NodeInRow column)) same first = first
fills_alike store its Rows (Err (filled.KeyText cell)) same (keys, (rows, are, first)) =
    ((alike store.file its.file rows store.shape its.shape same).2 keys, (rows, are, first))
fills_alike store its Rows (Err filled.OutOfMemory) same given = tt

pub fills_are_one : (law : RisingRowsAreOne) → FillsAreOne
fills_are_one law store its view database result other same one two =
    filled_one law store.shape (IsAnswer view database) result other one (fills_alike store its (IsAnswer view database) other same two)
