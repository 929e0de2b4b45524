-- Rows and the columns that keep them.
use Rattle.std.proofs.Common.{◌≡◌, ℕ, zero, suc, ◌+◌, ◌<◌, ◌≤◌, List, [], ◌∷◌, ◌++◌, map, length, get_or, take, replicate, Some, slice_get, refl, sym, ap, ◌∙◌}
use Rattle.std.proofs.Common.{subst, arith, inl, inr, add-one, slice_set, drop}
use Rattle.std.specs.List.{range_with_len}
use Rattle.std.proofs.lemmas.List.{length-map, length-append, get_or-map, get_or_append_left, get_or_push, same_lists, take_at, take_all, get_or_default}
use Rattle.std.proofs.lemmas.List.{map_more}
use Rattle.std.proofs.lemmas.List.Edits.{map_over_more}
use Rattle.std.proofs.lemmas.List.FromFn.{length-map-range_with_len, get_or-map-range_with_len, map-range_with_len_more}
use Rattle.std.proofs.lemmas.Option.{slice_get-get_or, get_or_from_slice_get}
use Rattle.esto_columns.specs.CodedRows.{CodedRows, row_at, rows_of}
use Rattle.esto_columns.specs.Columns.{HaveLength, pushed}
use Rattle.esto_term.proofs.ListLemmas.{Contains-nil, Contains-head, Contains-rest, Contains-cases}

pub length-rows_of : (columns : List (List ℕ)) (count : ℕ) → length (rows_of columns count) ≡ count
length-rows_of columns count = length-map-range_with_len (row_at columns) 0 count

pub rows_fit : (columns : List (List ℕ)) (count : ℕ) → HaveLength (length columns) (rows_of columns count)
rows_fit columns count row (place, within, is) =
    let long = length-rows_of columns count in
    let there = get_or-map-range_with_len (row_at columns) 0 count place place row (omega (arith, within, long)) (omega arith) in
    ap length (sym is ∙ there) ∙ length-map columns (λ column. get_or column place 0)

pub column_of : (columns : List (List ℕ)) (count : ℕ) → HaveLength count columns → (at : ℕ) (column : List ℕ) → at < length columns
    → column ≡ get_or columns at column
    → column ≡ map (λ row. get_or row at 0) (rows_of columns count)
column_of columns count have at column within is =
    let long : length column ≡ count = have column (at, within, sym is) in
    let rows_long = length-rows_of columns count in
    let all_long = length-map (rows_of columns count) (λ row. get_or row at 0) in
    same_lists column (map (λ row. get_or row at 0) (rows_of columns count)) (long ∙ sym rows_long ∙ sym all_long)
    (λ place other inside. get_or_default column place other 0 inside ∙ ap (λ it. get_or it place 0) is
    ∙ sym (get_or-map (λ it. get_or it place 0) columns at column 0 within)
    ∙ sym (ap (λ row. get_or row at 0) (get_or-map-range_with_len (row_at columns) 0 count place place [] (omega (arith, inside, long)) (omega arith)))
    ∙ sym (get_or-map (λ row. get_or row at 0) (rows_of columns count) place [] other (omega (arith, inside, long, rows_long))))

pub row_there : (columns : List (List ℕ)) (count at : ℕ) (row : List ℕ) → at < count → row ≡ row_at columns at → slice_get (rows_of columns count) at ≡ Some row
row_there columns count at row within is =
    let long = length-rows_of columns count in
    slice_get-get_or (rows_of columns count) at row (omega (arith, within, long))
    ∙ ap Some (get_or-map-range_with_len (row_at columns) 0 count at at row within (omega arith) ∙ sym is)

-- ---- empty columns

pub replicate_have : (count : ℕ) → HaveLength 0 (replicate count [])
replicate_have zero it inside = absurd (Contains-nil it inside)
replicate_have (suc count) it inside =
    elim (Contains-cases [] (replicate count []) it inside) [ inl is ↦ ap length (sym is) | inr rest ↦ replicate_have count it rest ]

-- ---- a row at the ends

pub length-pushed : (count : ℕ) (columns : List (List ℕ)) (row : List ℕ) → length (pushed count columns row) ≡ length columns
length-pushed zero columns row = refl
length-pushed (suc count) [] row = refl
length-pushed (suc count) (column ∷ columns) [] = refl
length-pushed (suc count) (column ∷ columns) (code ∷ row) = ap suc (length-pushed count columns row)

pub pushed_have : (size : ℕ) (columns : List (List ℕ)) (row : List ℕ) → HaveLength size columns → length row ≡ length columns
    → HaveLength (size + 1) (pushed (length row) columns row)
pushed_have size [] [] have long it inside = absurd (Contains-nil it inside)
pushed_have size [] (code ∷ row) have long it inside = absurd (omega (arith, long))
pushed_have size (column ∷ columns) [] have long it inside = absurd (omega (arith, long))
pushed_have size (column ∷ columns) (code ∷ row) have long it inside = elim (Contains-cases (column ++ code ∷ []) (pushed (length row) columns row) it inside) [
  | inl is ↦ let more = length-append column (code ∷ []) in let was = have column (Contains-head column columns) in
      ap length (sym is) ∙ omega (arith, more, was)
  | inr later ↦ pushed_have size columns row (λ other there. have other (Contains-rest column columns other there)) (omega (arith, long)) it later
]

-- the rows before the new one stay, and it is the last
pushed_before : (size : ℕ) (columns : List (List ℕ)) (row : List ℕ) (count place : ℕ) → HaveLength size columns → place < size
    → row_at (pushed count columns row) place ≡ row_at columns place
pushed_before size columns row zero place have below = refl
pushed_before size [] row (suc count) place have below = refl
pushed_before size (column ∷ columns) [] (suc count) place have below = refl
pushed_before size (column ∷ columns) (code ∷ row) (suc count) place have below =
    let was = have column (Contains-head column columns) in
    let first = get_or_append_left column (code ∷ []) 0 place (omega (arith, was, below)) in
    let rest = pushed_before size columns row count place (λ other there. have other (Contains-rest column columns other there)) below in λ i. first i ∷ rest i

pushed_last : (size : ℕ) (columns : List (List ℕ)) (row : List ℕ) → HaveLength size columns → length row ≡ length columns
    → row_at (pushed (length row) columns row) size ≡ row
pushed_last size [] [] have long = refl
pushed_last size [] (code ∷ row) have long = absurd (omega (arith, long))
pushed_last size (column ∷ columns) [] have long = absurd (omega (arith, long))
pushed_last size (column ∷ columns) (code ∷ row) have long =
    let first = get_or_push column code 0 size (have column (Contains-head column columns)) in
    let rest = pushed_last size columns row (λ other there. have other (Contains-rest column columns other there)) (omega (arith, long)) in
    λ i. first i ∷ rest i

map_on_range : {X : Type 0} (f g : ℕ → X) (from count : ℕ) → ((place : ℕ) → place < from + count → f place ≡ g place)
    → map f (range_with_len from count) ≡ map g (range_with_len from count)
map_on_range f g from zero agree = refl
map_on_range f g from (suc count) agree =
    let first = agree from (omega arith) in let rest = map_on_range f g (from + 1) count (λ place below. agree place (omega (arith, below))) in
    λ i. first i ∷ rest i

pub rows_pushed : (size : ℕ) (columns : List (List ℕ)) (row : List ℕ) → HaveLength size columns → length row ≡ length columns
    → rows_of (pushed (length row) columns row) (size + 1) ≡ rows_of columns size ++ row ∷ []
rows_pushed size columns row have long =
    map-range_with_len_more (row_at (pushed (length row) columns row)) 0 size size (omega arith)
    ∙ (λ i. map_on_range (row_at (pushed (length row) columns row)) (row_at columns) 0 size
    (λ place below. pushed_before size columns row (length row) place have (omega (arith, below))) i
    ++ pushed_last size columns row have long i ∷ [])

-- what was cut after a row that did not fit is as it was
pub cut_back : (size count : ℕ) (columns : List (List ℕ)) (row : List ℕ) → HaveLength size columns
    → map (λ column. take size column) (pushed count columns row) ≡ columns
cut_back size zero [] row have = refl
cut_back size zero (column ∷ columns) row have =
    let first = take_all size column (omega (arith, have column (Contains-head column columns))) in
    let rest = cut_back size zero columns row (λ other there. have other (Contains-rest column columns other there)) in λ i. first i ∷ rest i
cut_back size (suc count) [] row have = refl
cut_back size (suc count) (column ∷ columns) [] have =
    let first = take_all size column (omega (arith, have column (Contains-head column columns))) in
    let rest = cut_back size zero columns [] (λ other there. have other (Contains-rest column columns other there)) in λ i. first i ∷ rest i
cut_back size (suc count) (column ∷ columns) (code ∷ row) have =
    let first = take_at column (code ∷ []) size (have column (Contains-head column columns)) in
    let rest = cut_back size count columns row (λ other there. have other (Contains-rest column columns other there)) in λ i. first i ∷ rest i

-- one more code
pub push_more : (count : ℕ) (columns : List (List ℕ)) (row : List ℕ) (column : List ℕ) → count < length row → length row ≡ length columns
    → column ≡ get_or (pushed count columns row) count column
    → slice_set (pushed count columns row) count (column ++ get_or row count 0 ∷ []) ≡ pushed (count + 1) columns row
push_more count columns row column below long is = rw (add-one count) (go count columns row column below long is)
  where
    go : (n : ℕ) (cs : List (List ℕ)) (codes c : List ℕ) → n < length codes → length codes ≡ length cs → c ≡ get_or (pushed n cs codes) n c
        → slice_set (pushed n cs codes) n (c ++ get_or codes n 0 ∷ []) ≡ pushed (suc n) cs codes
    go n cs [] c below long is = absurd (omega (arith, below))
    go n [] (code ∷ codes) c below long is = absurd (omega (arith, long))
    go zero (first ∷ cs) (code ∷ codes) c below long is = ap (λ it. (it ++ code ∷ []) ∷ cs) is
    go (suc n) (first ∷ cs) (code ∷ codes) c below long is =
        ap (λ it. (first ++ code ∷ []) ∷ it) (go n cs codes c (omega (arith, below)) (omega (arith, long)) is)

-- ---- the rows as contracts see them

module _ (size : ℕ) (columns new : List (List ℕ)) (row : List ℕ) (value : CodedRows)
    (view_is : ◌≡◌ {A = CodedRows} (record { arity = length columns; rows = rows_of columns size }) value) (have : HaveLength size columns)
    (long : length row ≡ value.arity) where
  pub row_long : length row ≡ length columns
  row_long = long ∙ sym (ap (λ (it : CodedRows). it.arity) view_is)

  module _ (is : new ≡ pushed (length row) columns row) where
    pub add_have : HaveLength (size + 1) new
    add_have = subst (HaveLength (size + 1)) (sym is) (pushed_have size columns row have row_long)

    pub add_view : ◌≡◌ {A = CodedRows} (record { arity = length new; rows = rows_of new (size + 1) })
        (record { arity = value.arity; rows = value.rows ++ row ∷ [] })
    add_view =
        let arity : length new ≡ value.arity = ap length is ∙ length-pushed (length row) columns row ∙ ap (λ (it : CodedRows). it.arity) view_is in
        let rows : rows_of new (size + 1) ≡ value.rows ++ row ∷ [] =
        ap (λ it. rows_of it (size + 1)) is ∙ rows_pushed size columns row have row_long ∙ ap (λ (it : CodedRows). it.rows ++ row ∷ []) view_is in
        λ i. record { arity = arity i; rows = rows i }

-- a failed push is cut back
pub cut_same : (size : ℕ) (columns cut between : List (List ℕ)) (row : List ℕ) → HaveLength size columns → (count : ℕ) × (between ≡ pushed count columns row)
    → cut ≡ map (λ column. take size column) between → cut ≡ columns
cut_same size columns cut between row have failed is = is ∙ ap (map (λ column. take size column)) failed.1 ∙ cut_back size failed.0 columns row have

pub cut_have : (size : ℕ) (columns cut between : List (List ℕ)) (row : List ℕ) → HaveLength size columns → (count : ℕ) × (between ≡ pushed count columns row)
    → cut ≡ map (λ column. take size column) between → HaveLength size cut
cut_have size columns cut between row have failed is = subst (HaveLength size) (sym (cut_same size columns cut between row have failed is)) have

pub cut_view : (size : ℕ) (columns cut between : List (List ℕ)) (row : List ℕ) (value : CodedRows)
    → ◌≡◌ {A = CodedRows} (record { arity = length columns; rows = rows_of columns size }) value → HaveLength size columns
    → (count : ℕ) × (between ≡ pushed count columns row) → cut ≡ map (λ column. take size column) between
    → ◌≡◌ {A = CodedRows} (record { arity = length cut; rows = rows_of cut size }) value
cut_view size columns cut between row value view_is have failed is =
    ap (λ (it : List (List ℕ)). record { arity = length it; rows = rows_of it size }) (cut_same size columns cut between row have failed is) ∙ view_is

-- a turn of the push
pub push_turn : (count : ℕ) (columns now : List (List ℕ)) (row column pushed_column : List ℕ) → now ≡ pushed count columns row → count < length row
    → length row ≡ length columns → column ≡ get_or now count column
    → pushed_column ≡ column ++ get_or row count 0 ∷ [] → slice_set now count pushed_column ≡ pushed (count + 1) columns row
push_turn count columns now row column pushed_column is below long at more =
    (λ i. slice_set (is i) count (more i)) ∙ push_more count columns row column below long (at ∙ ap (λ it. get_or it count column) is)

-- a turn of the cut
pub cut_turn : (size count : ℕ) (columns now : List (List ℕ)) (column cut : List ℕ) → now ≡ map (λ it. take size it) (take count columns) ++ drop count columns
    → count < length columns → column ≡ get_or now count column
    → cut ≡ take size column → slice_set now count cut ≡ map (λ it. take size it) (take (count + 1) columns) ++ drop (count + 1) columns
cut_turn size count columns now column cut is below at shorter =
    ap (slice_set now count) shorter ∙ map_over_more (λ it. take size it) columns now count column below is at

-- ---- reading a row

module _ (size : ℕ) (columns items : List (List ℕ)) (value : CodedRows)
    (view_is : ◌≡◌ {A = CodedRows} (record { arity = length columns; rows = rows_of columns size }) value) where
  at_size : (at : ℕ) → at < length value.rows → at < size
  at_size at below = let long = length-rows_of columns size in
      let same : length (rows_of columns size) ≡ length value.rows = ap (λ (it : CodedRows). length it.rows) view_is in omega (arith, below, long, same)

  pub column_long : HaveLength size columns → items ≡ columns → (index : ℕ) (column : List ℕ) → index < length items → column ≡ get_or items index column
      → (at : ℕ) → at < length value.rows → at < length column
  column_long have same index column below is at inside =
      subst (λ it. at < it) (sym (subst (HaveLength size) (sym same) have column (index, below, sym is))) (at_size at inside)

  pub row_ends : items ≡ columns → (at : ℕ) → at < length value.rows → (index : ℕ) (row : List ℕ) → length items ≤ index
      → row ≡ map (λ column. get_or column at 0) (take index items) → slice_get value.rows at ≡ Some row
  row_ends same at inside index row past is =
      subst (λ (it : CodedRows). slice_get it.rows at ≡ Some row) view_is
      (row_there columns size at row (at_size at inside) (is ∙ ap (map (λ column. get_or column at 0)) (take_all index items past ∙ same)))

pub row_turn : (at : ℕ) (items : List (List ℕ)) (index : ℕ) (column row more : List ℕ) (code : ℕ) → index < length items → column ≡ get_or items index column
    → row ≡ map (λ it. get_or it at 0) (take index items)
    → slice_get column at ≡ Some code → more ≡ row ++ code ∷ [] → more ≡ map (λ it. get_or it at 0) (take (index + 1) items)
row_turn at items index column row more code below is so_far read grown =
    grown ∙ (λ i. so_far i ++ sym (get_or_from_slice_get column at code 0 read) i ∷ [])
    ∙ ap (λ it. map (λ other. get_or other at 0) (take index items) ++ get_or it at 0 ∷ []) is
    ∙ sym (map_more (λ it. get_or it at 0) items index column below)
