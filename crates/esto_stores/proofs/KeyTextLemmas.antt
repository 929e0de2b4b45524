-- The text of a key file is read back as the same rows.
use Rattle.std.proofs.Common.{◌≡◌, ◌<◌, ◌+◌, ◌∙◌, ◌==◌, ◌&&◌, ◌++◌, ℕ, List, [], ◌∷◌, Bool, true, false, None, length, get_or, take, drop, refl, ap, sym, arith}
use Rattle.std.proofs.Common.{append_assoc, ◌≤◌}
use Rattle.std.specs.Prelude.{flat_map, All}
use Rattle.std.specs.List.{list_any, list_all, slice_split, onto_first, join_with_byte}
use Rattle.std.specs.Str.{is_utf8}
use Rattle.std.proofs.lemmas.List.{append-nil, take_all, take_more, flat_map_more, at_drop_all}
use Rattle.std.proofs.lemmas.List.Elements.{All-head, All-tail}
use Rattle.std.proofs.lemmas.List.Folds.{list_any-append}
use Rattle.esto_ports.specs.declared.file_fault.FileKind.{FileKind}
use Rattle.esto_stores.specs.Rows.{Row, are_texts, first_fault}
use Rattle.esto_ports.specs.Lines.{line_feed, lines_of, LinesBeginAnew}
use Rattle.esto_stores.specs.Keys.{tab, carriage_return, without_return, cells_of_line, key_rows, key_fault}
use Rattle.esto_stores.specs.KeyText.{is_part, row_fault, keys_text}
use Rattle.esto_ports.proofs.LineLemmas.{none_passes}
use Rattle.esto_stores.proofs.KeyLemmas.{one_cell, or_left, or_right}
use Rattle.esto_stores.proofs.RowLemmas.{fault_goes, texts_go}

-- Cells joined by tabs.
pub join_parts : (c : ℕ) (x : List ℕ) (ys : List (List ℕ)) → join_with_byte c (x ∷ ys) ≡ x ++ flat_map (λ y. c ∷ y) ys
join_parts c x [] = sym (append-nil x)
join_parts c x (y ∷ ys) = ap (λ (t : List ℕ). x ++ (c ∷ t)) (join_parts c y ys)

-- A byte that is in no part and no join.
none_in_join : (p : ℕ → Bool) (c : ℕ) (cells : Row) → p c ≡ false → list_any (list_any p) cells ≡ false → list_any p (join_with_byte c cells) ≡ false
none_in_join p c [] e h = refl
none_in_join p c (x ∷ []) e h = or_left _ _ h
none_in_join p c (x ∷ y ∷ ys) e h =
    list_any-append p x (c ∷ join_with_byte c (y ∷ ys)) ∙ rw (or_left (list_any p x) (list_any (list_any p) (y ∷ ys)) h, e)
    (none_in_join p c (y ∷ ys) e (or_right (list_any p x) _ h))

-- The marks, one by one.
weaker_any : {X : Type 0} (p q : X → Bool) (xs : List X) → ((x : X) → p x ≡ false → q x ≡ false) → list_any p xs ≡ false → list_any q xs ≡ false
weaker_any p q [] f h = refl
weaker_any p q (x ∷ xs) f h = rw (f x (or_left _ _ h)) (weaker_any p q xs f (or_right (p x) _ h))

no_tab : (b : ℕ) → is_part b ≡ false → (b == tab) ≡ false
no_tab b h = or_left _ _ (or_left _ _ h)

no_feed : (b : ℕ) → is_part b ≡ false → (b == line_feed) ≡ false
no_feed b h = or_right (b == tab) _ (or_left _ _ h)

no_return_mark : (b : ℕ) → is_part b ≡ false → (b == carriage_return) ≡ false
no_return_mark b h = or_right _ _ h

plain_cells : (q : ℕ → Bool) (cells : Row) → ((b : ℕ) → is_part b ≡ false → q b ≡ false) → list_any (list_any is_part) cells ≡ false
    → list_any (list_any q) cells ≡ false
plain_cells q cells f h = weaker_any (list_any is_part) (list_any q) cells (λ cell. weaker_any is_part q cell f) h

-- A line without a carriage return.
return_kept : (line : List ℕ) → list_any (λ b. b == carriage_return) line ≡ false → without_return line ≡ line
unfolding without_return
return_kept [] h = refl
return_kept (x ∷ []) h = rw (or_left (x == carriage_return) _ h) refl
return_kept (x ∷ y ∷ ys) h = ap (λ (t : List ℕ). x ∷ t) (return_kept (y ∷ ys) (or_right (x == carriage_return) _ h))

-- Cells without a tab, joined by tabs.
cell_split : (x rest : List ℕ) → list_any (λ b. b == tab) x ≡ false → slice_split (λ b. b == tab) (x ++ tab ∷ rest) ≡ x ∷ slice_split (λ b. b == tab) rest
cell_split [] rest h = refl
cell_split (b ∷ bs) rest h = rw (or_left (b == tab) _ h) (ap (onto_first b) (cell_split bs rest (or_right (b == tab) _ h)))

cells_split : (cells : Row) → 0 < length cells → list_any (list_any (λ b. b == tab)) cells ≡ false → slice_split (λ b. b == tab) (join_with_byte tab cells)
    ≡ cells
cells_split [] some h = absurd (omega arith)
cells_split (x ∷ []) some h = one_cell x (or_left _ _ h)
cells_split (x ∷ y ∷ ys) some h =
    cell_split x (join_with_byte tab (y ∷ ys)) (or_left _ _ h)
    ∙ ap (λ (r : Row). x ∷ r) (cells_split (y ∷ ys) (omega arith) (or_right (list_any (λ b. b == tab) x) _ h))

-- A row's line is read as the row.
row_read : (row : Row) → row_fault row ≡ None → 0 < length row → cells_of_line (join_with_byte tab row) ≡ row
row_read row plain some =
    let h = none_passes (list_any is_part) row plain in
    rw (return_kept (join_with_byte tab row) (none_in_join (λ b. b == carriage_return) tab row refl (plain_cells _ row no_return_mark h)))
    (cells_split row some (plain_cells _ row no_tab h))

pub rows_read : LinesBeginAnew → (rows : List Row) → All (λ row. row_fault row ≡ None) rows → All (λ row. 0 < length row) rows → key_rows (keys_text rows)
    ≡ rows
unfolding key_rows lines_of
rows_read anew [] plain some = refl
rows_read anew (row ∷ rows) plain some =
    let h = none_passes (list_any is_part) row (All-head (λ (r : Row). row_fault r ≡ None) row rows plain) in
    let line = join_with_byte tab row in
    let text : keys_text (row ∷ rows) ≡ line ++ line_feed ∷ keys_text rows = append_assoc line (line_feed ∷ []) (keys_text rows) in
    let first = anew line (keys_text rows) (none_in_join (λ b. b == line_feed) tab row refl (plain_cells _ row no_feed h)) in
    let cells = row_read row (All-head (λ (r : Row). row_fault r ≡ None) row rows plain) (All-head (λ (r : Row). 0 < length r) row rows some) in
    let more = rows_read anew rows (All-tail (λ (r : Row). row_fault r ≡ None) row rows plain) (All-tail (λ (r : Row). 0 < length r) row rows some) in
    rw (text, first) (rw (cells, more) refl)

pub both_left : (a b : Bool) → (a && b) ≡ true → a ≡ true
both_left true b e = refl
both_left false b e = cc e

pub both_right : (a b : Bool) → (a && b) ≡ true → b ≡ true
both_right true b e = e
both_right false b e = cc e

-- Rows of texts and of this length have no fault.
pub no_fault : (kind : FileKind) (width n : ℕ) (rows : List Row) → All (λ row. length row ≡ width) rows → list_all are_texts rows ≡ true
    → first_fault kind width (λ cells. cells) n rows ≡ None
unfolding first_fault
no_fault kind width n [] sizes texts = refl
no_fault kind width n (row ∷ rows) sizes texts =
    fault_goes kind width (λ cells. cells) n row rows (All-head (λ (r : Row). length r ≡ width) row rows sizes) (both_left _ _ texts)
    ∙ no_fault kind width (n + 1) rows (All-tail (λ (r : Row). length r ≡ width) row rows sizes) (both_right (are_texts row) _ texts)

pub keys_no_fault : LinesBeginAnew → (width : ℕ) (rows : List Row) → All (λ row. row_fault row ≡ None) rows → All (λ row. 0 < length row) rows
    → list_all are_texts rows ≡ true
    → All (λ row. length row ≡ width) rows → key_fault width (keys_text rows) ≡ None
unfolding key_fault
keys_no_fault anew width rows plain some texts sizes = rw (rows_read anew rows plain some) (no_fault _ width 1 rows sizes texts)

-- What a loop over the rows has written after the first `i`.
abbrev pub HasWritten : List Row → ℕ → List ℕ → Type 0
HasWritten rows i text = (text ≡ keys_text (take i rows)) × (list_all are_texts rows ≡ list_all are_texts (drop i rows))

pub all_written : (rows : List Row) (i : ℕ) (text : List ℕ) → length rows ≤ i → HasWritten rows i text → (text ≡ keys_text rows)
    × (list_all are_texts rows ≡ true)
all_written rows i text h w = (w.0 ∙ ap keys_text (take_all i rows h), w.1 ∙ at_drop_all (list_all are_texts) rows i h)

-- A turn of the loop over the cells of a row.
abbrev pub HasJoined : List ℕ → List ℕ → Row → ℕ → List ℕ → Type 0
HasJoined before first others i text =
    (text ≡ (before ++ first) ++ flat_map (λ cell. tab ∷ cell) (take i others)) × (are_texts (first ∷ others) ≡ are_texts (drop i others))

pub joined_start : (before first : List ℕ) (others : Row) (text : List ℕ) → text ≡ before ++ first → is_utf8 first ≡ true → HasJoined before first others 0 text
joined_start before first others text e u = (e ∙ sym (append-nil (before ++ first)), rw u refl)

pub joined_goes : (before first : List ℕ) (others : Row) (i : ℕ) (text new cell : List ℕ) → HasJoined before first others i text → i < length others
    → cell ≡ get_or others i [] → is_utf8 cell ≡ true → new ≡ text ++ tab ∷ cell → HasJoined before first others (i + 1) new
joined_goes before first others i text new cell h within e u w = (
  w ∙ ap (λ (t : List ℕ). t ++ tab ∷ cell) h.0 ∙ more_at (before ++ first) others i cell within e,
  h.1 ∙ texts_go others i within (rw (← e) u),
) where
  more_at : (start : List ℕ) (others : Row) (i : ℕ) (cell : List ℕ) → i < length others → cell ≡ get_or others i []
      → (start ++ flat_map (λ c. tab ∷ c) (take i others)) ++ tab ∷ cell ≡ start ++ flat_map (λ c. tab ∷ c) (take (i + 1) others)
  more_at start others i cell within e =
      flat_map_more (λ c. tab ∷ c) start (take i others) cell ∙ rw (take_more others i [] within, e) refl

pub joined_end : (before first : List ℕ) (others : Row) (i : ℕ) (text : List ℕ) → HasJoined before first others i text → length others ≤ i
    → (text ≡ before ++ join_with_byte tab (first ∷ others)) × (are_texts (first ∷ others) ≡ true)
joined_end before first others i text h past = (
  h.0 ∙ ap (λ (cs : Row). (before ++ first) ++ flat_map (λ c. tab ∷ c) cs) (take_all i others past)
      ∙ append_assoc before first (flat_map (λ c. tab ∷ c) others)
      ∙ ap (λ (t : List ℕ). before ++ t) (sym (join_parts tab first others)),
  h.1 ∙ at_drop_all are_texts others i past,
)
