-- Cells and rows of cells that get codes, one after the other.
use Rattle.std.proofs.Common.{◌≡◌, ◌≢◌, ◌<◌, ◌≤◌, ◌+◌, ◌∙◌, ◌++◌, ℕ, List, [], ◌∷◌, Some, get_or, drop, length, map, slice_get}
use Rattle.std.proofs.Common.{refl, ap, sym, subst, append_assoc}
use Rattle.std.specs.Prelude.{Result, Ok, Err, OnOk}
use Rattle.std.proofs.lemmas.List.{at_drop_more, at_drop_all, map_push, length-map, append-nil}
use Rattle.esto_term.specs.declared.text.TextError.{TextError}
use Rattle.esto_term.specs.declared.text.TextError.TheVariants as text
use Rattle.esto_columns.specs.CodedRows.{CodedRows}
use Rattle.esto_columns.specs.Interned.{AreCodesOf, AreCodedRows, Grows, IsRightFault}
use Rattle.esto_columns.proofs.CodingLemmas.{codes_grow, codes_long, grows_on, row_added}
use Rattle.esto_ports.specs.declared.file_fault.FileError.{FileError}
use Rattle.esto_ports.specs.declared.file_fault.FileError.TheVariants as content
use Rattle.esto_ports.specs.declared.file_fault.FileKind.{FileKind}
use Rattle.esto_stores.specs.Coded.{AddsRow, CodesCells, FaultsNext, FillsRows, PutsCode, PutsCodes}
use Rattle.esto_stores.specs.Rows.{Row, are_texts, first_fault}
use Rattle.esto_stores.specs.Table.{cells_at}
use Rattle.esto_stores.proofs.RowLemmas.{HasRead, fault_length, fault_text, row_goes, rows_end, utf8_false}

-- A cell that has no code.
pub code_error : (cell old new : List ℕ) (texts : List (List ℕ)) (e : TextError) → IsRightFault cell e → PutsCode cell old texts new (Err e)
code_error cell old new texts text.NotUtf8 h = utf8_false cell h
code_error cell old new texts text.OutOfMemory h = tt

-- What a loop over a row's cells has coded so far: the cells before those that are left.
pub record HasCells (all left : Row) (old texts : List (List ℕ)) (codes : List ℕ) : Type 0 where
  pub done : Row
  pub same : all ≡ done ++ left
  pub own : AreCodesOf texts codes done
  pub rest : are_texts all ≡ are_texts left
  pub grown : Grows old texts

pub cells_start : (all : Row) (old : List (List ℕ)) (codes : List ℕ) → codes ≡ [] → HasCells all all old old codes
cells_start all old codes e =
    record {
      done = [];
      same = refl;
      own = ap (map (slice_get old)) e;
      rest = refl;
      grown = ([], sym (append-nil old));
    }

pub cells_go : (all left more : Row) (old mid new : List (List ℕ)) (codes after : List ℕ) (cell : List ℕ) → HasCells all left old mid codes → left ≡ cell ∷ more
    → PutsCode cell codes new after (Ok tt) → Grows mid new → HasCells all more old new after
cells_go all left more old mid new codes after cell has e put grown =
    let code = put.0.0 in
    let pushed = put.0.1 in
    let found = put.0.2 in
    record {
      done = has.done ++ cell ∷ [];
      same = has.same ∙ ap (λ (l : Row). has.done ++ l) e ∙ sym (append_assoc has.done (cell ∷ []) more);
      own = ap (map (slice_get new)) pushed ∙ map_push (slice_get new) codes code
          ∙ (λ i. codes_grow mid new codes has.done grown has.own i ++ found i ∷ []) ∙ sym (map_push Some has.done cell);
      rest = has.rest ∙ rw (e, put.1) refl;
      grown = grows_on old mid new has.grown grown;
    }

pub cells_stop : (all left more : Row) (old mid new : List (List ℕ)) (codes after : List ℕ) (cell : List ℕ) (e : TextError) → HasCells all left old mid codes
    → left ≡ cell ∷ more → PutsCode cell codes new after (Err e) → CodesCells all new after (Err e)
cells_stop all left more old mid new codes after cell text.NotUtf8 has e put = has.rest ∙ rw (e, put) refl
cells_stop all left more old mid new codes after cell text.OutOfMemory has e put = tt

pub cells_end : (all left : Row) (old texts : List (List ℕ)) (codes : List ℕ) → HasCells all left old texts codes → left ≡ []
    → CodesCells all texts codes (Ok tt)
cells_end all left old texts codes has e =
    let done : has.done ≡ all = sym (has.same ∙ ap (λ (l : Row). has.done ++ l) e ∙ append-nil has.done) in
    (subst (AreCodesOf texts codes) done has.own, has.rest ∙ ap are_texts e)

-- The cells at places, one by one.
pub place_next : (places : List ℕ) (cells : Row) (i : ℕ) (cell : List ℕ) → i < length places → cell ≡ get_or cells (get_or places i 0) []
    → cells_at (drop i places) cells ≡ cell ∷ cells_at (drop (i + 1) places) cells
place_next places cells i cell h e = at_drop_more (λ ps. cells_at ps cells) places i 0 h ∙ rw (← e) refl

pub places_end : (places : List ℕ) (cells : Row) (i : ℕ) → length places ≤ i → cells_at (drop i places) cells ≡ []
places_end places cells i h = at_drop_all (λ ps. cells_at ps cells) places i h

-- A row's codes are as many as its cells.
pub row_long : (cells : Row) (texts : List (List ℕ)) (row : List ℕ) (arity : ℕ) (read : Result (Unit {0}) TextError) → CodesCells cells texts row read
    → length cells ≡ arity → OnOk read (length row ≡ arity)
row_long cells texts row arity (Ok u) coded e = codes_long texts row cells coded.0 ∙ e
row_long cells texts row arity (Err e) coded same = tt

-- A row of another length.
pub row_short : (kind : FileKind) (width : ℕ) (taken : Row → Row) (cells : Row) (old new : List (List ℕ)) (before after : CodedRows) (error : FileError)
    → length cells ≢ width → FaultsNext kind before error → AddsRow kind width taken cells old before new after (Err error)
row_short kind width taken cells old new before after (content.Fault found) size next = λ rest.
    fault_length kind width taken (length before.rows + 1) cells rest size ∙ ap Some (sym next)
row_short kind width taken cells old new before after content.OutOfMemory size next = tt

-- A row of the right length.
adds_codes : (old new : List (List ℕ)) (row : List ℕ) (cells : Row) (before after : CodedRows) → Grows old new → AreCodesOf new row cells
    → after ≡ record { arity = before.arity; rows = before.rows ++ row ∷ [] }
    → (rows : List Row) → AreCodedRows old before.rows rows → AreCodedRows new after.rows (rows ++ cells ∷ [])
adds_codes old new row cells before after grown own put rows are =
    subst (λ (it : CodedRows). AreCodedRows new it.rows (rows ++ cells ∷ [])) (sym put)
    (row_added old new before.rows row rows cells grown own are)

pub row_adds : (kind : FileKind) (width : ℕ) (taken : Row → Row) (cells : Row) (old new : List (List ℕ)) (row : List ℕ) (before after : CodedRows)
    (read : Result (Unit {0}) TextError) (result : Result (Unit {0}) FileError) → length cells ≡ width → CodesCells (taken cells) new row read → Grows old new
    → PutsCodes read row before after result → AddsRow kind width taken cells old before new after result
row_adds kind width taken cells old new row before after read (Ok u) size coded grown put =
    let own : CodesCells (taken cells) new row (Ok tt) = subst (CodesCells (taken cells) new row) put.0 coded in (
      (size, own.1),
      (ap (λ (it : CodedRows). it.arity) put.1, adds_codes old new row (taken cells) before after grown own.0 put.1),
    )
row_adds kind width taken cells old new row before after read (Err (content.Fault found)) size coded grown put =
    let none : CodesCells (taken cells) new row (Err text.NotUtf8) = subst (CodesCells (taken cells) new row) put.0 coded in λ rest.
    fault_text kind width taken (length before.rows + 1) cells rest size none ∙ ap Some (sym put.1)
row_adds kind width taken cells old new row before after read (Err content.OutOfMemory) size coded grown put = tt

-- What a loop over rows has coded so far: these rows were read, and their codes stand in the rows of codes.
pub record HasRows (kind : FileKind) (width : ℕ) (taken : Row → Row) (all left : List Row) (old texts : List (List ℕ)) (arity : ℕ)
    (coded : CodedRows) : Type 0 where
  pub rows : List Row
  pub read : HasRead kind width taken all left rows
  pub own : AreCodedRows texts coded.rows rows
  pub columns : coded.arity ≡ arity
  pub grown : Grows old texts

pub rows_start : (kind : FileKind) (width : ℕ) (taken : Row → Row) (all : List Row) (old : List (List ℕ)) (arity : ℕ) (coded : CodedRows) → coded.rows ≡ []
    → coded.arity ≡ arity → HasRows kind width taken all all old old arity coded
rows_start kind width taken all old arity coded e size =
    record {
      rows = [];
      read = record { same = refl; fault = refl };
      own = ap (map (λ codes. map (slice_get old) codes)) e;
      columns = size;
      grown = ([], sym (append-nil old));
    }

pub rows_go : (kind : FileKind) (width : ℕ) (taken : Row → Row) (all left more : List Row) (old mid new : List (List ℕ)) (arity : ℕ) (before after : CodedRows)
    (cells : Row) → HasRows kind width taken all left old mid arity before → left ≡ cells ∷ more
    → AddsRow kind width taken cells mid before new after (Ok tt) → Grows mid new → HasRows kind width taken all more old new arity after
rows_go kind width taken all left more old mid new arity before after cells has e adds grown =
    record {
      rows = has.rows ++ taken cells ∷ [];
      read = row_goes kind width taken all left more has.rows cells (taken cells) has.read e adds.0.0 refl adds.0.1;
      own = adds.1.1 has.rows has.own;
      columns = adds.1.0 ∙ has.columns;
      grown = grows_on old mid new has.grown grown;
    }

-- As many rows of codes as rows.
rows_long : (texts : List (List ℕ)) (coded : List (List ℕ)) (rows : List Row) → AreCodedRows texts coded rows → length coded ≡ length rows
rows_long texts coded rows are = sym (length-map coded (λ codes. map (slice_get texts) codes)) ∙ ap length are ∙ length-map rows (λ row. map Some row)

pub rows_stop : (kind : FileKind) (width : ℕ) (taken : Row → Row) (all left more : List Row) (old mid new : List (List ℕ)) (arity : ℕ)
    (before after : CodedRows) (cells : Row) (e : FileError) → HasRows kind width taken all left old mid arity before → left ≡ cells ∷ more
    → AddsRow kind width taken cells mid before new after (Err e)
    → FillsRows (map taken all) (first_fault kind width taken 1 all) arity new after (Err e)
rows_stop kind width taken all left more old mid new arity before after cells (content.Fault found) has e adds =
    has.read.fault ∙ ap (first_fault kind width taken (length has.rows + 1)) e
    ∙ ap (λ n. first_fault kind width taken (n + 1) (cells ∷ more)) (sym (rows_long mid before.rows has.rows has.own)) ∙ adds more
rows_stop kind width taken all left more old mid new arity before after cells content.OutOfMemory has e adds = tt

pub rows_done : (kind : FileKind) (width : ℕ) (taken : Row → Row) (all left : List Row) (old texts : List (List ℕ)) (arity : ℕ) (coded : CodedRows)
    → HasRows kind width taken all left old texts arity coded → left ≡ []
    → FillsRows (map taken all) (first_fault kind width taken 1 all) arity texts coded (Ok tt)
rows_done kind width taken all left old texts arity coded has e =
    let end = rows_end kind width taken all left has.rows has.read e in
    (end.0, has.columns, subst (AreCodedRows texts coded.rows) end.1 has.own)
