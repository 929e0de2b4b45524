-- The text of a CSV file is read back as the same rows.
use Rattle.std.proofs.Common.{Bor, ◌≡◌, ◌≢◌, ◌<◌, ◌≤◌, ◌+◌, ◌∙◌, ◌==◌, ◌&&◌, ◌++◌, ℕ, zero, suc, List, [], ◌∷◌, cond, Bool, true, false, None, length, map}
use Rattle.std.proofs.Common.{get_or, take, drop, refl, ap, sym, subst, arith, inl, inr, append_assoc, if◌then◌else◌}
use Rattle.std.specs.Prelude.{All, AllPairs, bytes_eq, Result, Ok, Err, IfOk}
use Rattle.std.specs.List.{list_any, list_all}
use Rattle.std.proofs.lemmas.Bool.{cases_Bool}
use Rattle.std.proofs.lemmas.List.{append-nil, get_or-map, length-map, same_lists, take_all, take_more, map_more, flat_map_more, at_drop_all, at_drop_more}
use Rattle.std.proofs.lemmas.List.{get_or_default}
use Rattle.std.proofs.lemmas.List.Elements.{All-head, All-tail}
use Rattle.std.proofs.lemmas.List.Sums.{sum_by-cons}
use Rattle.std.proofs.lemmas.Slice.Eq.{bytes_eq-Decides}
use Rattle.csv.specs.Machine.{next_record}
use Rattle.csv.specs.Reading.{default_config}
use Rattle.csv.specs.Writing.{default_writer, row_text, fields_text, field_text, is_blank, read_back, needs_byte}
use Rattle.csv.specs.declared.parser.State.TheVariants as st
use Rattle.csv.proofs.RoundTrip.{read-write}
use Rattle.esto_ports.specs.declared.file_fault.FileKind.TheVariants.{Length}
use Rattle.esto_stores.specs.Rows.{Row, are_texts, first_fault}
use Rattle.esto_stores.specs.Left.{records_at}
use Rattle.esto_stores.specs.Table.{records_of, times_in, place_in, declared, header_fault, fault_of_records, rows_of_records, table_fault, table_rows}
use Rattle.esto_stores.specs.TableText.{records_text, table_text, HasNoMark, StartsPlain}
use Rattle.esto_stores.proofs.RecordLemmas.{records_none, records_some}
use Rattle.esto_stores.proofs.RowLemmas.{fault_goes, lent}
use Rattle.esto_stores.proofs.TableLemmas.{no_mark}
use Rattle.esto_stores.proofs.KeyTextLemmas.{both_left, both_right}

-- Three facts of one result give a fourth.
pub all_ok : {X E : Type 0} (result : Result X E) (P Q R S : X → Type 0) → ((x : X) → P x → Q x → R x → S x)
    → IfOk result P → IfOk result Q → IfOk result R → IfOk result S
all_ok (Ok x) P Q R S follows p q r = follows x p q r
all_ok (Err e) P Q R S follows p q r = tt

-- Written records are read back.
kept : (row : Row) → 0 < length row → read_back row ≡ row
kept [] h = absurd (omega arith)
kept (x ∷ xs) h = refl

pub records_read : (rows : List Row) → All (λ row. 0 < length row) rows → records_at st.StartRecord (records_text rows) ≡ rows
unfolding next_record
records_read [] some = records_none default_config st.StartRecord [] refl
records_read (row ∷ rows) some =
    let first = read-write row (records_text rows) in
    records_some default_config st.StartRecord (records_text (row ∷ rows)) (read_back row, st.StartRecord, records_text rows) refl first
    ∙ rw (kept row (All-head (λ (r : Row). 0 < length r) row rows some))
    (ap (λ (rs : List Row). row ∷ rs) (records_read rows (All-tail (λ (r : Row). 0 < length r) row rows some)))

-- No mark comes up at the start of the text.
ends_mark : (a b : Bool) → (a && b && false) ≡ false
ends_mark true true = refl
ends_mark true false = refl
ends_mark false b = refl

mid_mark : (a c : Bool) → (a && false && c) ≡ false
mid_mark true c = refl
mid_mark false c = refl

plain_then : (x : List ℕ) (c : ℕ) (tail : List ℕ) → HasNoMark x → (c == 239) ≡ false → (c == 187) ≡ false → (c == 191) ≡ false → HasNoMark (x ++ c ∷ tail)
plain_then [] c tail h e f g = rw e refl
plain_then (a ∷ []) c tail h e f g = rw f (mid_mark (a == 239) _)
plain_then (a ∷ b ∷ []) c tail h e f g = rw g (ends_mark (a == 239) (b == 187))
plain_then (a ∷ b ∷ d ∷ rest) c tail h e f g = h

-- What follows the first cell begins with a comma, a quote or a line feed.
abbrev FollowsPlain : List ℕ → Type 0
FollowsPlain text = (c : ℕ) × (tail : List ℕ) × (text ≡ c ∷ tail) × ((c == 239) ≡ false) × ((c == 187) ≡ false) × ((c == 191) ≡ false)

follows_more : (z : List ℕ) (zs : Row) (last rest : List ℕ) → FollowsPlain ((fields_text default_writer (z ∷ zs) ++ last) ++ rest)
unfolding fields_text
follows_more z zs last rest = (44, _, refl, refl, refl, refl)

follows_last : (blank : Bool) (rest : List ℕ) → FollowsPlain (((if blank then 34 ∷ 34 ∷ [] else []) ++ 10 ∷ []) ++ rest)
follows_last true rest = (34, _, refl, refl, refl, refl)
follows_last false rest = (10, _, refl, refl, refl, refl)

follows : (x : List ℕ) (more : Row) (rest : List ℕ)
    → FollowsPlain ((fields_text default_writer more ++ ((if is_blank default_writer (x ∷ more) then 34 ∷ 34 ∷ [] else []) ++ 10 ∷ [])) ++ rest)
unfolding fields_text
follows x [] rest = follows_last (is_blank default_writer (x ∷ [])) rest
follows x (z ∷ zs) rest = follows_more z zs _ rest

row_parts : (x : List ℕ) (more : Row) (rest : List ℕ) → row_text default_writer (x ∷ more) ++ rest
    ≡ field_text default_writer x ++ ((fields_text default_writer more ++ ((if is_blank default_writer (x ∷ more) then 34 ∷ 34 ∷ [] else []) ++ 10 ∷ []))
    ++ rest)
row_parts x more rest =
    ap (λ (t : List ℕ). t ++ rest) (append_assoc (field_text default_writer x) (fields_text default_writer more) _)
    ∙ append_assoc (field_text default_writer x) _ rest

first_plain : (x tail : List ℕ) → HasNoMark x → FollowsPlain tail → HasNoMark (field_text default_writer x ++ tail)
first_plain x tail plain (c, rest, same, e, f, g) = elim (cases_Bool (list_any (needs_byte default_writer) x)) [
  | inl quoted ↦ rw quoted refl
  | inr bare ↦ rw (bare, same) (plain_then x c rest plain e f g)
]

pub text_plain : (columns : Row) (rest : List ℕ) → 0 < length columns → StartsPlain columns → HasNoMark (row_text default_writer columns ++ rest)
text_plain [] rest some plain = absurd (omega arith)
text_plain (x ∷ more) rest some plain =
    subst (λ (t : List ℕ). HasNoMark t) (sym (row_parts x more rest)) (first_plain x _ plain (follows x more rest))

all_some : (columns : Row) (rows : List Row) → 0 < length columns → All (λ row. length row ≡ length columns) rows → All (λ row. 0 < length row) (columns ∷ rows)
all_some columns rows some sizes zero d h = some
all_some columns rows some sizes (suc k) d h = omega (arith, sizes k d (omega arith), some)

pub table_records : (columns : Row) (rows : List Row) → 0 < length columns → StartsPlain columns → All (λ row. length row ≡ length columns) rows
    → records_of (table_text columns rows) ≡ columns ∷ rows
table_records columns rows some plain sizes =
    ap (records_at st.StartRecord) (no_mark (table_text columns rows) (text_plain columns (records_text rows) some plain))
    ∙ records_read (columns ∷ rows) (all_some columns rows some sizes)

-- Each name of distinct ones stands once, where it stands.
not_same : (x y : List ℕ) → x ≢ y → bytes_eq x y ≡ false
not_same x y n = elim (cases_Bool (bytes_eq x y)) [ inl e ↦ absurd (n ((bytes_eq-Decides x y).0 e)) | inr e ↦ e ]

same_bytes : (x : List ℕ) → bytes_eq x x ≡ true
same_bytes x = (bytes_eq-Decides x x).1 refl

none_counted : (xs : Row) (y : List ℕ) → ((k : ℕ) (d : List ℕ) → k < length xs → get_or xs k d ≢ y) → times_in xs y ≡ 0
none_counted [] y h = refl
none_counted (x ∷ xs) y h =
    let e = sum_by-cons (λ (c : List ℕ). cond {A = ℕ} (bytes_eq c y) 1 0) x xs in
    let differs : bytes_eq x y ≡ false = not_same x y (h 0 x (omega arith)) in
    let none : cond {A = ℕ} (bytes_eq x y) 1 0 ≡ 0 = rw differs refl in
    let rest = none_counted xs y (λ k d l. h (suc k) d (omega arith)) in
    omega (arith, e, none, rest)

once_first : (x : List ℕ) (xs : Row) → ((k : ℕ) (d : List ℕ) → k < length xs → get_or xs k d ≢ x) → times_in (x ∷ xs) x ≡ 1
once_first x xs h =
    let e = sum_by-cons (λ (c : List ℕ). cond {A = ℕ} (bytes_eq c x) 1 0) x xs in
    let one : cond {A = ℕ} (bytes_eq x x) 1 0 ≡ 1 = rw (same_bytes x) refl in
    let rest = none_counted xs x h in
    omega (arith, e, one, rest)

once_later : (x y : List ℕ) (xs : Row) → x ≢ y → times_in (x ∷ xs) y ≡ times_in xs y
once_later x y xs n =
    let e = sum_by-cons (λ (c : List ℕ). cond {A = ℕ} (bytes_eq c y) 1 0) x xs in
    let none : cond {A = ℕ} (bytes_eq x y) 1 0 ≡ 0 = rw (not_same x y n) refl in
    omega (arith, e, none)

pub stands_once : (columns : Row) (i : ℕ) → AllPairs ◌≢◌ columns → i < length columns
    → (times_in columns (get_or columns i []) ≡ 1) × (place_in columns (get_or columns i []) ≡ i)
stands_once [] i pairs h = absurd (omega arith)
stands_once (x ∷ xs) zero pairs h =
    (once_first x xs (λ k d l e. pairs 0 (suc k) d (omega arith) (omega arith) (sym e)), rw (same_bytes x) refl)
stands_once (x ∷ xs) (suc i) pairs h =
    let rest = stands_once xs i (λ a b d l k. pairs (suc a) (suc b) d (omega arith) (omega arith)) (omega arith) in
    let differs : x ≢ get_or xs i [] = pairs 0 (suc i) [] (omega arith) h in (
      once_later x (get_or xs i []) xs differs ∙ rest.0,
      rw (not_same x (get_or xs i []) differs) (let p = rest.1 in omega arith),
    )

-- The declared cells of a row are the row.
pub declared_same : (columns row : Row) → AllPairs ◌≢◌ columns → length row ≡ length columns → declared columns columns row ≡ row
declared_same columns row pairs size =
    same_lists (declared columns columns row) row (all_cells ∙ sym size) (λ k d l. at k d (omega (arith, all_cells, l))) where
      places : List ℕ
      places = map (place_in columns) columns

      all_cells : length (declared columns columns row) ≡ length columns
      all_cells = length-map (map (place_in columns) columns) (λ p. get_or row p []) ∙ length-map columns (place_in columns)

      at : (k : ℕ) (d : List ℕ) → k < length columns → get_or (declared columns columns row) k d ≡ get_or row k d
      at k d l =
          get_or-map (λ p. get_or row p []) (map (place_in columns) columns) k 0 d (omega (arith, length-map columns (place_in columns), l))
          ∙ ap (λ (p : ℕ). get_or row p []) (get_or-map (place_in columns) columns k [] 0 l ∙ (stands_once columns k pairs l).1)
          ∙ get_or_default row k [] d (omega (arith, size, l))

header_none : (header names : Row) (n : ℕ) → ((i : ℕ) → i < length names → times_in header (get_or names i []) ≡ 1) → header_fault header n names ≡ None
unfolding header_fault
header_none header [] n h = refl
header_none header (name ∷ names) n h = rw (h 0 (omega arith)) (header_none header names (n + 1) (λ i l. h (suc i) (omega arith)))

rows_none : (columns : Row) (rows : List Row) (n : ℕ) → AllPairs ◌≢◌ columns → All (λ row. length row ≡ length columns) rows → list_all are_texts rows ≡ true
    → first_fault Length (length columns) (declared columns columns) n rows ≡ None
unfolding first_fault
rows_none columns [] n pairs sizes texts = refl
rows_none columns (row ∷ rows) n pairs sizes texts =
    let size = All-head (λ (r : Row). length r ≡ length columns) row rows sizes in
    fault_goes Length (length columns) (declared columns columns) n row rows size (ap are_texts (declared_same columns row pairs size) ∙ both_left _ _ texts)
    ∙ rows_none columns rows (n + 1) pairs (All-tail (λ (r : Row). length r ≡ length columns) row rows sizes) (both_right (are_texts row) _ texts)

rows_kept : (columns : Row) (rows : List Row) → AllPairs ◌≢◌ columns → All (λ row. length row ≡ length columns) rows → map (declared columns columns) rows
    ≡ rows
rows_kept columns [] pairs sizes = refl
rows_kept columns (row ∷ rows) pairs sizes =
    rw (declared_same columns row pairs (All-head (λ (r : Row). length r ≡ length columns) row rows sizes))
    (ap (λ (rs : List Row). row ∷ rs) (rows_kept columns rows pairs (All-tail (λ (r : Row). length r ≡ length columns) row rows sizes)))

-- A table's text is opened as the same rows.
pub table_rows_read : (columns : Row) (rows : List Row) → 0 < length columns → AllPairs ◌≢◌ columns → StartsPlain columns
    → All (λ row. length row ≡ length columns) rows → table_rows columns (table_text columns rows) ≡ rows
unfolding table_rows
table_rows_read columns rows some pairs plain sizes =
    ap (rows_of_records columns) (table_records columns rows some plain sizes) ∙ rows_kept columns rows pairs sizes

pub table_fault_read : (columns : Row) (rows : List Row) → 0 < length columns → AllPairs ◌≢◌ columns → StartsPlain columns
    → All (λ row. length row ≡ length columns) rows → are_texts columns ≡ true → list_all are_texts rows ≡ true
    → table_fault columns (table_text columns rows) ≡ None
unfolding table_fault
table_fault_read columns rows some pairs plain sizes header texts =
    ap (fault_of_records columns) (table_records columns rows some plain sizes)
    ∙ rw (header, header_none columns columns 1 (λ i l. (stands_once columns i pairs l).0)) (rows_none columns rows 1 pairs sizes texts)

-- What a loop over the rows has written after the first `i`.
abbrev pub HasPut : Row → List Row → ℕ → List ℕ → Type 0
HasPut columns rows i text =
    (text ≡ table_text columns (take i rows)) × (are_texts columns ≡ true) × (list_all are_texts rows ≡ list_all are_texts (drop i rows))

pub put_start : (columns : Row) (rows : List Row) (text : List ℕ) → text ≡ row_text default_writer columns → are_texts columns ≡ true
    → HasPut columns rows 0 text
put_start columns rows text e texts = (e ∙ sym (append-nil (row_text default_writer columns)), texts, refl)

pub put_goes : (columns : Row) (rows : List Row) (i : ℕ) (text new : List ℕ) (row : Row) → HasPut columns rows i text → i < length rows
    → row ≡ get_or rows i [] → new ≡ text ++ row_text default_writer row → are_texts row ≡ true → HasPut columns rows (i + 1) new
put_goes columns rows i text new row h within e more texts = (
  more ∙ ap (λ (t : List ℕ). t ++ row_text default_writer row) h.0
      ∙ flat_map_more (row_text default_writer) [] (columns ∷ take i rows) row
      ∙ ap (λ (rs : List Row). records_text (columns ∷ rs)) (ap (λ (r : Row). take i rows ++ r ∷ []) e ∙ sym (take_more rows i [] within)),
  h.1,
  h.2 ∙ at_drop_more (list_all are_texts) rows i [] within ∙ rw (← e, texts) refl,
)

pub put_end : (columns : Row) (rows : List Row) (i : ℕ) (text : List ℕ) → HasPut columns rows i text → length rows ≤ i
    → (text ≡ table_text columns rows) × (are_texts columns ≡ true) × (list_all are_texts rows ≡ true)
put_end columns rows i text h past =
    (h.0 ∙ ap (table_text columns) (take_all i rows past), h.1, h.2 ∙ at_drop_all (list_all are_texts) rows i past)

-- ---- rows whose cells are lent

abbrev pub lent_rows : List (Bor (List (Bor (List ℕ)))) → List Row
lent_rows rows = map (λ row. lent row.now) rows

pub lent_goes : (columns : Row) (rows : List (Bor (List (Bor (List ℕ))))) (i : ℕ) (text new : List ℕ) (default : Bor (List (Bor (List ℕ))))
    → text ≡ table_text columns (lent_rows (take i rows)) → i < length rows → new ≡ text ++ row_text default_writer (lent (get_or rows i default).now)
    → new ≡ table_text columns (lent_rows (take (i + 1) rows))
lent_goes columns rows i text new default is within more =
    more ∙ ap (λ (t : List ℕ). t ++ row_text default_writer (lent (get_or rows i default).now)) is
    ∙ flat_map_more (row_text default_writer) [] (columns ∷ lent_rows (take i rows)) (lent (get_or rows i default).now)
    ∙ ap (λ (rs : List Row). records_text (columns ∷ rs)) (sym (map_more (λ (row : Bor (List (Bor (List ℕ)))). lent row.now) rows i default within))
