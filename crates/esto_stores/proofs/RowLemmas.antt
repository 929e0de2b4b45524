-- A turn of a loop over cells or rows.
use Rattle.std.proofs.Common.{Bor, eq-eqb, append_assoc, None, ◌≡◌, ◌≢◌, ◌<◌, ◌≤◌, ◌+◌, ◌∙◌, ◌++◌, ℕ, List, [], ◌∷◌, Bool, true, false, Option, Some, get_or}
use Rattle.std.proofs.Common.{take, drop, length, map, refl, ap, sym, subst}
use Rattle.std.specs.Prelude.{IsUtf8, Result, Ok, Err, MatchResult}
use Rattle.std.specs.Prelude.{OnOk, is_err}
use Rattle.std.specs.Result.{is_ok}
use Rattle.std.specs.Str.{is_utf8}
use Rattle.std.proofs.lemmas.Bool.{ne_eqb}
use Rattle.std.proofs.lemmas.List.{at_drop_more, at_drop_all, map_more, map_push, take_more, take_all, length_push, append-nil}
use Rattle.std.proofs.lemmas.Str.{is_utf8-from_IsUtf8, IsUtf8-from_is_utf8}
use Rattle.esto_term.specs.TextFaults.{ReadsText}
use Rattle.esto_term.specs.declared.text.TextError.{TextError}
use Rattle.esto_term.specs.declared.text.TextError.TheVariants as text
use Rattle.esto_ports.specs.declared.file_fault.FileFault.{FileFault}
use Rattle.esto_ports.specs.declared.file_fault.FileError.{FileError}
use Rattle.esto_ports.specs.declared.file_fault.FileError.TheVariants.{Fault, OutOfMemory}
use Rattle.esto_ports.specs.declared.file_fault.FileKind.{FileKind}
use Rattle.esto_ports.specs.declared.file_fault.FileKind.TheVariants.{NotUtf8}
use Rattle.esto_ports.specs.FileFaults.{fault_at, Gives}
use Rattle.esto_stores.specs.Rows.{Row, are_texts, first_fault, AddsTexts, PutsCell, ReadsRow}
use Rattle.esto_stores.specs.Left.{Takes}
use Rattle.esto_stores.specs.Table.{cells_at}

pub utf8_false : (bytes : List ℕ) → ¬ IsUtf8 bytes → is_utf8 bytes ≡ false
utf8_false bytes not = go (is_utf8 bytes) refl where
  go : (b : Bool) → is_utf8 bytes ≡ b → is_utf8 bytes ≡ false
  go true e = absurd (not (IsUtf8-from_is_utf8 bytes e))
  go false e = e

-- Where a cell is a text, so are all from it on exactly where those after it are.
pub texts_go : (cells : Row) (i : ℕ) → i < length cells → is_utf8 (get_or cells i []) ≡ true → are_texts (drop i cells) ≡ are_texts (drop (i + 1) cells)
texts_go cells i h e = at_drop_more are_texts cells i [] h ∙ rw e refl

pub texts_stop : (cells : Row) (i : ℕ) → i < length cells → is_utf8 (get_or cells i []) ≡ false → are_texts (drop i cells) ≡ false
texts_stop cells i h e = at_drop_more are_texts cells i [] h ∙ rw e refl

-- The same of the cells at places.
pub places_go : (places : List ℕ) (cells : Row) (i : ℕ) (cell : List ℕ) → i < length places → cell ≡ get_or cells (get_or places i 0) [] → is_utf8 cell ≡ true
    → are_texts (cells_at (drop i places) cells) ≡ are_texts (cells_at (drop (i + 1) places) cells)
places_go places cells i cell h e text = at_drop_more (λ ps. are_texts (cells_at ps cells)) places i 0 h ∙ rw (← e, text) refl

pub places_stop : (places : List ℕ) (cells : Row) (i : ℕ) (cell : List ℕ) → i < length places → cell ≡ get_or cells (get_or places i 0) [] → is_utf8 cell
    ≡ false
    → are_texts (cells_at (drop i places) cells) ≡ false
places_stop places cells i cell h e text = at_drop_more (λ ps. are_texts (cells_at ps cells)) places i 0 h ∙ rw (← e, text) refl

pub places_more : (places : List ℕ) (cells : Row) (i : ℕ) (cell : List ℕ) → i < length places → cell ≡ get_or cells (get_or places i 0) []
    → cells_at (take (i + 1) places) cells ≡ cells_at (take i places) cells ++ cell ∷ []
places_more places cells i cell h e = map_more (λ p. get_or cells p []) places i 0 h ∙ rw (← e) refl

-- The first fault of rows, by the first row.
pub fault_goes : (kind : FileKind) (width : ℕ) (taken : Row → Row) (n : ℕ) (cells : Row) (rest : List Row) → length cells ≡ width → are_texts (taken cells)
    ≡ true
    → first_fault kind width taken n (cells ∷ rest) ≡ first_fault kind width taken (n + 1) rest
unfolding first_fault
fault_goes kind width taken n cells rest e t = rw (eq-eqb (length cells) width e, t) refl

pub fault_length : (kind : FileKind) (width : ℕ) (taken : Row → Row) (n : ℕ) (cells : Row) (rest : List Row) → length cells ≢ width
    → first_fault kind width taken n (cells ∷ rest) ≡ Some (fault_at kind n)
unfolding first_fault
fault_length kind width taken n cells rest e = rw (ne_eqb (length cells) width e) refl

pub fault_text : (kind : FileKind) (width : ℕ) (taken : Row → Row) (n : ℕ) (cells : Row) (rest : List Row) → length cells ≡ width → are_texts (taken cells)
    ≡ false
    → first_fault kind width taken n (cells ∷ rest) ≡ Some (fault_at NotUtf8 n)
unfolding first_fault
fault_text kind width taken n cells rest e t = rw (eq-eqb (length cells) width e, t) refl

-- A test that is right says what `is_utf8` says.
pub utf8_tested : {A E : Type 0} (r : Result A E) (bytes : List ℕ) (X : A → Type 0) (Y : E → Type 0)
    → MatchResult r (λ s. X s × IsUtf8 bytes) (λ e. ¬ IsUtf8 bytes × Y e) → is_ok r ≡ is_utf8 bytes
utf8_tested (Ok s) bytes X Y h = sym (is_utf8-from_IsUtf8 bytes h.1)
utf8_tested (Err e) bytes X Y h = sym (utf8_false bytes h.0)

-- What holds on `Ok`, where the answer is no `Err`.
pub on_ok : {P : Type 0} {T E : Type 0} (r : Result T E) → is_err r ≡ false → OnOk r P → P
on_ok (Ok x) e h = h
on_ok (Err x) e h = cc e

-- What a cell gives as a text is what it puts.
pub cell_put : (old new : Row) (cell text : List ℕ) → (text ≡ cell) × IsUtf8 cell → new ≡ old ++ text ∷ [] → (new ≡ old ++ cell ∷ []) × (is_utf8 cell ≡ true)
cell_put old new cell text h e = (e ∙ ap (λ (c : List ℕ). old ++ c ∷ []) h.0, is_utf8-from_IsUtf8 cell h.1)

pub cell_error : (old new : Row) (cell : List ℕ) (e : TextError) → ReadsText cell (Err e) → PutsCell old cell new (Err e)
cell_error old new cell text.NotUtf8 h = utf8_false cell h
cell_error old new cell text.OutOfMemory h = tt

-- A cell that is no text.
pub row_error : (cells old new : Row) (cell : List ℕ) (e : TextError) → PutsCell old cell new (Err e) → (is_utf8 cell ≡ false → are_texts cells ≡ false)
    → ReadsRow cells (Err e)
row_error cells old new cell text.NotUtf8 h f = f h
row_error cells old new cell text.OutOfMemory h f = tt

-- An answer that is a fault.
pub gives_fault : {A : Type 0} (value : A) (fault : Option FileFault) (found : FileFault) (error : FileError) → error ≡ Fault found → fault ≡ Some found
    → Gives value fault (Err error)
gives_fault value fault found error e h = rw e h

-- What a loop over rows has read so far: these rows were taken, and the rest gives the answer.
pub record HasRead (kind : FileKind) (width : ℕ) (taken : Row → Row) (all left rows : List Row) : Type 0 where
  pub same : map taken all ≡ rows ++ map taken left
  pub fault : first_fault kind width taken 1 all ≡ first_fault kind width taken (length rows + 1) left

goes_at : (kind : FileKind) (width : ℕ) (taken : Row → Row) (left more : List Row) (cells : Row) (n m : ℕ) → left ≡ cells ∷ more → length cells ≡ width
    → are_texts (taken cells) ≡ true → m ≡ n + 1 → first_fault kind width taken n left ≡ first_fault kind width taken m more
goes_at kind width taken left more cells n m e size texts next = rw (e, next) (fault_goes kind width taken n cells more size texts)

pub row_goes : (kind : FileKind) (width : ℕ) (taken : Row → Row) (all left more rows : List Row) (cells row : Row) → HasRead kind width taken all left rows
    → left ≡ cells ∷ more → length cells ≡ width → row ≡ taken cells → are_texts (taken cells) ≡ true → HasRead kind width taken all more (rows ++ row ∷ [])
row_goes kind width taken all left more rows cells row read e size same texts =
    record {
      same = read.same ∙ rw (e, same) (sym (append_assoc rows (taken cells ∷ []) (map taken more)));
      fault = read.fault ∙ goes_at kind width taken left more cells (length rows + 1) (length (rows ++ row ∷ []) + 1) e size texts
          (ap (λ n. n + 1) (length_push rows row));
    }

pub rows_end : (kind : FileKind) (width : ℕ) (taken : Row → Row) (all left rows : List Row) → HasRead kind width taken all left rows → left ≡ []
    → (first_fault kind width taken 1 all ≡ None) × (rows ≡ map taken all)
unfolding first_fault
rows_end kind width taken all left rows read e = (read.fault ∙ ap (first_fault kind width taken (length rows + 1)) e, sym (read.same ∙ rw e (append-nil rows)))

-- What is added of a row: the row, or its fault.
pub adds_row : (kind : FileKind) (width : ℕ) (taken : Row → Row) (cells row : Row) (before after : List Row) (result : Result (Unit {0}) FileError)
    → length cells ≡ width → ReadsRow (taken cells) (Ok row) → MatchResult result (λ _. after ≡ before ++ row ∷ []) (λ error. error ≡ OutOfMemory)
    → AddsTexts kind width taken cells before after result
adds_row kind width taken cells row before after (Ok done) size read put = (size, read.1, put ∙ ap (λ (r : Row). before ++ r ∷ []) read.0)
adds_row kind width taken cells row before after (Err error) size read put = rw put tt

pub adds_length : (kind : FileKind) (width : ℕ) (taken : Row → Row) (cells : Row) (before after : List Row) (error : FileError) → length cells ≢ width
    → error ≡ Fault (fault_at kind (length before + 1)) → AddsTexts kind width taken cells before after (Err error)
adds_length kind width taken cells before after error size is = rw is (λ rest. fault_length kind width taken (length before + 1) cells rest size)

pub adds_text : (kind : FileKind) (width : ℕ) (taken : Row → Row) (cells : Row) (before after : List Row) (error : FileError) → length cells ≡ width
    → are_texts (taken cells) ≡ false → error ≡ Fault (fault_at NotUtf8 (length before + 1)) → AddsTexts kind width taken cells before after (Err error)
adds_text kind width taken cells before after error size texts is =
    rw is (λ rest. fault_text kind width taken (length before + 1) cells rest size texts)

-- A turn that adds a row, and one that stops at its fault.
pub added_goes : (kind : FileKind) (width : ℕ) (taken : Row → Row) (all left more rows new : List Row) (cells : Row) → HasRead kind width taken all left rows
    → left ≡ cells ∷ more → AddsTexts kind width taken cells rows new (Ok tt) → HasRead kind width taken all more new
added_goes kind width taken all left more rows new cells read e adds =
    subst (HasRead kind width taken all more) (sym adds.2) (row_goes kind width taken all left more rows cells (taken cells) read e adds.0 refl adds.1)

pub added_stops : {A : Type 0} (value : A) (kind : FileKind) (width : ℕ) (taken : Row → Row) (all left more rows new : List Row) (cells : Row)
    (error : FileError) → HasRead kind width taken all left rows → left ≡ cells ∷ more → AddsTexts kind width taken cells rows new (Err error)
    → Gives value (first_fault kind width taken 1 all) (Err error)
added_stops value kind width taken all left more rows new cells (Fault found) read e adds =
    read.fault ∙ ap (first_fault kind width taken (length rows + 1)) e ∙ adds more
added_stops value kind width taken all left more rows new cells OutOfMemory read e adds = tt

-- A read that found a record.
pub taken_some : (before after : List Row) (found : Bool) (cells : Row) → Takes before found cells after → found ≡ true → before ≡ cells ∷ after
taken_some before after true cells t e = t
taken_some before after false cells t e = cc e

pub taken_none : (before after : List Row) (found : Bool) (cells : Row) → Takes before found cells after → found ≡ false → before ≡ []
taken_none before after true cells t e = cc e
taken_none before after false cells t e = t

-- The same turns over lent cells.
abbrev pub lent : List (Bor (List ℕ)) → Row
lent cells = map (λ cell. cell.now) cells

pub lent_go : (cells : List (Bor (List ℕ))) (i : ℕ) (d : Bor (List ℕ)) → i < length cells → is_utf8 (get_or cells i d).now ≡ true
    → are_texts (lent (drop i cells)) ≡ are_texts (lent (drop (i + 1) cells))
lent_go cells i d h text = at_drop_more (λ cs. are_texts (lent cs)) cells i d h ∙ rw text refl

pub lent_stop : (cells : List (Bor (List ℕ))) (i : ℕ) (d : Bor (List ℕ)) → i < length cells → is_utf8 (get_or cells i d).now ≡ false
    → are_texts (lent (drop i cells)) ≡ false
lent_stop cells i d h text = at_drop_more (λ cs. are_texts (lent cs)) cells i d h ∙ rw text refl

pub lent_more : (cells : List (Bor (List ℕ))) (i : ℕ) (d : Bor (List ℕ)) (cell : List ℕ) (row new : Row) → i < length cells → cell ≡ (get_or cells i d).now
    → row ≡ lent (take i cells) → new ≡ row ++ cell ∷ [] → new ≡ lent (take (i + 1) cells)
lent_more cells i d cell row new h e r n =
    n ∙ ap (λ (t : Row). t ++ cell ∷ []) r ∙ rw e (sym (map_more (λ (c : Bor (List ℕ)). c.now) cells i d h))

-- A turn of a loop that lends the cells of a row.
abbrev pub HasLent : Row → ℕ → List (Bor (List ℕ)) → Type 0
HasLent row i cells = (lent cells ≡ take i row) × (are_texts row ≡ are_texts (drop i row))

pub lend_goes : (row : Row) (i : ℕ) (cells new : List (Bor (List ℕ))) (cell : Bor (List ℕ)) (item : List ℕ) → HasLent row i cells → i < length row
    → item ≡ get_or row i [] → cell.now ≡ item → IsUtf8 cell.now → new ≡ cells ++ cell ∷ [] → HasLent row (i + 1) new
lend_goes row i cells new cell item h within at same text more = (
  ap lent more ∙ map_push (λ (c : Bor (List ℕ)). c.now) cells cell ∙ ap (λ (cs : Row). cs ++ cell.now ∷ []) h.0
      ∙ ap (λ (c : List ℕ). take i row ++ c ∷ []) (same ∙ at) ∙ sym (take_more row i [] within),
  h.1 ∙ texts_go row i within (rw (sym at, sym same) (is_utf8-from_IsUtf8 cell.now text)),
)

pub lend_end : (row : Row) (i : ℕ) (cells : List (Bor (List ℕ))) → HasLent row i cells → length row ≤ i → (lent cells ≡ row) × (are_texts row ≡ true)
lend_end row i cells h past = (h.0 ∙ take_all i row past, h.1 ∙ at_drop_all are_texts row i past)
