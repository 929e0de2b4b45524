-- The text of a fragment's file, and what it says when it is read.
use Rattle.std.proofs.Common.{◌≡◌, ◌↔◌, ◌<◌, ◌≤◌, slice_get, ℕ, Bool, true, false, if◌then◌else◌, List, ◌++◌, length, map, get_or, Option, None, Some, Contains}
use Rattle.std.proofs.Common.{refl, sym, ap, ◌∙◌, subst}
use Rattle.std.specs.Prelude.{All, IfSome, Ok, drop, nat_eq}
use Rattle.std.specs.List.{starts_with}
use Rattle.std.proofs.lemmas.List.{length-map}
use Rattle.std.proofs.lemmas.List.Elements.{Contains-get_or}
use Rattle.std.proofs.lemmas.Option.{slice_get-get_or, slice_get_read}
use Rattle.esto_docmodel.specs.declared.file.Shape.{Shape}
use Rattle.esto_docmodel.specs.declared.file.Shape.TheVariants.{Documents, Keys}
use Rattle.esto_ports.specs.declared.mark.TheConstants.{MARK}
use Rattle.esto_docmodel.specs.Layouts.{IsLayout}
use Rattle.esto_docmodel.specs.Shapes.{entries_of}
use Rattle.esto_docmodel.specs.declared.pattern.Pattern.{Pattern}
use Rattle.esto_docs.specs.Files.{file_trees, trees_fault}
use Rattle.esto_docs.specs.Rows.{IsRowOf}
use Rattle.esto_docmodel.specs.declared.file.Layout.{Layout}
use Rattle.esto_docs.proofs.StoreLemmas.{documents_give}
use Rattle.esto_semantics.specs.Facts.{Database}
use Rattle.esto_semantics.specs.Queries.{ConjunctiveQuery, IsAnswer}
use Rattle.esto_semantics.specs.declared.fact.Value.{Value}
use Rattle.esto_semantics.specs.declared.fact.Value.TheVariants.{Text}
use Rattle.esto_semantics.proofs.ValueLemmas.{same_texts}
use Rattle.esto_stores.specs.Keys.{key_fault, key_rows}
use Rattle.esto_stores.specs.Rows.{Row}
use Rattle.esto_stores.specs.KeyText.{row_fault}
use Rattle.esto_term.proofs.ListLemmas.{HoldsBelow, holds_all}
use Rattle.esto_fill.specs.Filled.{IsFirstUnfit, IsOpenedAs, SaysRows, with_mark}
use Rattle.esto_ports.specs.Marks.{without_mark}
use Rattle.esto_fill.specs.Texts.{AreExactly}

-- ---- marks

pub mark_dropped : (text : List ℕ) → without_mark (with_mark text) ≡ text
mark_dropped text = by (starts_with nat_eq text MARK) refl
  where
    by : (begins : Bool) → starts_with nat_eq text MARK ≡ begins → without_mark (if begins then MARK ++ text else text) ≡ text
    by true told = refl
    by false told = ap (λ b. if b then drop (length MARK) text else text) told

-- ---- rows

pub in_rows : (Rows : List Value → Type 0) (rows : List Row) → AreExactly Rows rows → (row : Row) → Contains rows row ↔ Rows (map Text row)
in_rows Rows rows exact row = (
  (λ inside. (exact (map Text row)).1 (row, inside, refl)),
  (λ there. let found = (exact (map Text row)).0 there in subst (Contains rows) (sym (same_texts row found.0 found.2)) found.1),
)

-- the rows have as many cells as the query's head has terms
pub rows_wide : (query : ConjunctiveQuery) (database : Database) (rows : List Row) → AreExactly (IsAnswer query database) rows
    → All (λ row. length row ≡ length query.head) rows
rows_wide query database rows exact k d below =
    let (m, keeps, sends, is) = ((in_rows (IsAnswer query database) rows exact (get_or rows k d)).0 (Contains-get_or rows k d below)) in
    sym (length-map (get_or rows k d) Text) ∙ ap length is ∙ length-map query.head m

-- ---- what a text says

pub documents_say : (width : ℕ) (layout : Layout) (pattern : Pattern) (rows : List Row) (text : List ℕ) → IsLayout width (entries_of pattern.entries)
    → ((row : Row) → IsRowOf width (entries_of pattern.entries) (file_trees layout text) row ↔ Contains rows row) → trees_fault layout text ≡ None
    → SaysRows (Documents layout pattern) width rows text
documents_say width layout pattern rows text is read none =
    let given = documents_give width layout pattern text (Ok rows) is (none, λ row. ((read row).1, (read row).0)) in
    record { no_fault = given.0; rows_are = λ row. ((given.1 row).1, (given.1 row).0) }

pub both_there : {A B : Type 0} (P : A → B → Type 0) (one : Option A) (two : Option B) (a : A) (b : B) → one ≡ Some a → two ≡ Some b → P a b
    → IfSome one (λ x. IfSome two (λ y. P x y))
both_there P one two a b there too holds =
    subst (λ it. IfSome it (λ x. IfSome two (λ y. P x y))) (sym there) (subst (λ it. IfSome it (λ y. P a y)) (sym too) holds)

-- ---- what a file is filled with

pub opened_as : (shape : Shape) (width : ℕ) (Rows : List Value → Type 0) (rows : List Row) (text file : List ℕ) → AreExactly Rows rows
    → SaysRows shape width rows text → file ≡ with_mark text → IsOpenedAs shape width Rows (without_mark file)
opened_as shape width Rows rows text file exact says is = subst (IsOpenedAs shape width Rows) (sym (ap without_mark is ∙ mark_dropped text)) (record {
  no_fault = says.no_fault;
  rows = λ row. (
    (λ there. (in_rows Rows rows exact row).0 ((says.rows_are row).0 there)),
    (λ there. (says.rows_are row).1 ((in_rows Rows rows exact row).1 there)),
  );
})

-- the first cell that a key file can't hold, where a loop finds it
pub unfit_first : (rows items : List Row) → items ≡ rows → (count : ℕ) (row : Row) → count < length items → row ≡ get_or items count row
    → HoldsBelow (λ _ it. row_fault it ≡ None) items count → (column : ℕ) → row_fault row ≡ Some column → (cell own : List ℕ)
    → slice_get row column ≡ Some cell → own ≡ cell → IsFirstUnfit rows own
unfit_first rows items same count row within read before column fault cell own there is = record {
  place = count;
  row = row;
  there = subst (λ (those : List Row). slice_get those count ≡ Some row) same (slice_get_read items (length items) count row refl within read);
  column = column;
  fault = fault;
  is = there ∙ ap Some (sym is);
  before = λ earlier other less at. before earlier other less (subst (λ (those : List Row). slice_get those earlier ≡ Some other) (sym same) at);
}

-- keys can hold all rows, where a loop has seen them
pub all_fit : (rows items : List Row) → items ≡ rows → (count : ℕ) → length items ≤ count → HoldsBelow (λ _ it. row_fault it ≡ None) items count
    → All (λ it. row_fault it ≡ None) rows
all_fit rows items same count past before =
    subst (All (λ it. row_fault it ≡ None)) same
    (λ k d below. holds_all (λ _ it. row_fault it ≡ None) items count past before k (get_or items k d) (slice_get-get_or items k d below))

-- a text that is read as these rows says them
pub keys_say : (width : ℕ) (rows : List Row) (text : List ℕ) → key_rows text ≡ rows → key_fault width text ≡ None → SaysRows Keys width rows text
keys_say width rows text read none = record {
  no_fault = none;
  rows_are = λ row. ((λ inside. subst (λ those. Contains those row) read inside), (λ inside. subst (λ those. Contains those row) (sym read) inside));
}
