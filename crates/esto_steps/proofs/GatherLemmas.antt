-- What is kept of pairs, column by column.
use Rattle.std.proofs.Common.{◌≡◌, ℕ, zero, suc, ◌+◌, ◌-◌, ◌<◌, ◌≤◌, nat_lt, Bool, true, false, cond, List, [], ◌∷◌, ◌++◌, map, length, replicate, get_or, Some, None}
use Rattle.std.proofs.Common.{slice_get, Contains, refl, sym, ap, ◌∙◌, subst, arith}
use Rattle.std.specs.List.{range_with_len}
use Rattle.std.proofs.lemmas.List.{length-map, length-append}
use Rattle.std.proofs.lemmas.List.FromFn.{length-range_with_len}
use Rattle.std.proofs.lemmas.Option.{slice_get_past, slice_get_within, get_or_from_slice_get, same_Some}
use Rattle.esto_columns.specs.CodedRows.{CodedRows, row_at, rows_of}
use Rattle.esto_columns.specs.Columns.{HaveLength}
use Rattle.esto_term.proofs.ListLemmas.{Contains-head, Contains-rest, Contains-map_from, map_then, map_agree, map_at, map_at-from, map_by_places, range_at}
use Rattle.esto_term.proofs.ListLemmas.{place-from_Contains, thing_at}
use Rattle.esto_steps.specs.declared.pairs.Pair.{Pair}
use Rattle.esto_steps.specs.declared.steps.Source.{Source}
use Rattle.esto_steps.specs.declared.steps.Source.TheVariants.{Code, Cell}
use Rattle.esto_steps.specs.Meaning.{code_at}
use Rattle.esto_steps.specs.Named.{NamesCodes, IsEarly}
use Rattle.esto_steps.proofs.PairLemmas.{lt_true, lt_false}
use Rattle.esto_steps.specs.Paired.{code_in, code_or_zero, kept_rows, NameAll, NameNone}

-- ---- the codes at places of a column

pub code_read : (row : List ℕ) (column : ℕ) → get_or row column 0 ≡ code_or_zero (slice_get row column)
code_read [] column = refl
code_read (code ∷ row) zero = refl
code_read (code ∷ row) (suc column) = code_read row column

-- past the last row both are 0
column_read : (rows : List (List ℕ)) (column place : ℕ)
    → get_or (map (λ row. get_or row column 0) rows) place 0 ≡ code_or_zero (slice_get (get_or rows place []) column)
column_read [] column place = refl
column_read (row ∷ rows) column zero = code_read row column
column_read (row ∷ rows) column (suc place) = column_read rows column place

pub codes_at : (rows : List (List ℕ)) (column : ℕ) (place_in : Pair → ℕ) (pairs : List Pair) (codes places : List ℕ)
    → codes ≡ map (λ row. get_or row column 0) rows → places ≡ map place_in pairs
    → map (λ place. get_or codes place 0) places ≡ map (λ pair. code_or_zero (slice_get (get_or rows (place_in pair) []) column)) pairs
codes_at rows column place_in pairs codes places codes_are places_are =
    (λ i. map (λ place. get_or (codes_are i) place 0) (places_are i))
    ∙ map_then place_in (λ place. get_or (map (λ row. get_or row column 0) rows) place 0) pairs
    ∙ map_agree (λ pair. get_or (map (λ row. get_or row column 0) rows) (place_in pair) 0)
    (λ pair. code_or_zero (slice_get (get_or rows (place_in pair) []) column)) pairs (λ pair inside. column_read rows column (place_in pair))

-- no row has a code past its end
none_past : (rows : List (List ℕ)) (arity column place : ℕ) → HaveLength arity rows → arity ≤ column → slice_get (get_or rows place []) column ≡ None
none_past [] arity column place fit past = refl
none_past (row ∷ rows) arity column zero fit past =
    let long = fit row (Contains-head row rows) in slice_get_past row column (omega (arith, long, past))
none_past (row ∷ rows) arity column (suc place) fit past =
    none_past rows arity column place (λ it inside. fit it (Contains-rest row rows it inside)) past

-- a code that is repeated is the code of each of as many things
repeated_each : {X : Type 0} (code : ℕ) (things : List X) → replicate (length things) code ≡ map (λ _. code) things
repeated_each code [] = refl
repeated_each code (thing ∷ things) = ap (λ codes. code ∷ codes) (repeated_each code things)

pub code_of_each : {X : Type 0} (code : ℕ) (things : List X) (made : List ℕ) (count : ℕ) → made ≡ replicate count code → count ≡ length things
    → made ≡ map (λ _. code) things
code_of_each code things made count made_is count_is = made_is ∙ ap (λ n. replicate n code) count_is ∙ repeated_each code things

-- ---- a column of what is kept

module _ (so_far rows : CodedRows) (pairs : List Pair) (source : Source) (at width : ℕ) (is : source ≡ Cell at) (width_is : width ≡ so_far.arity) where
  -- the codes by the answer to the test, and by the width
  abbrev by_test : Bool → ℕ → List ℕ
  by_test answer n = map (λ (pair : Pair). code_or_zero (cond answer (slice_get (get_or so_far.rows pair.left []) at)
      (slice_get (get_or rows.rows pair.right []) (at - n)))) pairs

  split : (answer : Bool) → nat_lt at so_far.arity ≡ answer → by_test answer width ≡ map (λ pair. code_or_zero (code_in so_far rows pair source)) pairs
  split answer told = (λ i. by_test (sym told i) (width_is i)) ∙ ap (λ it. map (λ pair. code_or_zero (code_in so_far rows pair it)) pairs) (sym is)

  pub left_codes : (codes lefts made : List ℕ) → at < width → codes ≡ map (λ row. get_or row at 0) so_far.rows
      → lefts ≡ map (λ (pair : Pair). pair.left) pairs → made ≡ map (λ place. get_or codes place 0) lefts
      → made ≡ map (λ pair. code_or_zero (code_in so_far rows pair source)) pairs
  left_codes codes lefts made below codes_are lefts_are made_is =
      made_is ∙ codes_at so_far.rows at (λ (pair : Pair). pair.left) pairs codes lefts codes_are lefts_are
      ∙ split true (lt_true at so_far.arity (omega (arith, below, width_is)))

  pub right_codes : (codes rights made : List ℕ) → width ≤ at → codes ≡ map (λ row. get_or row (at - width) 0) rows.rows
      → rights ≡ map (λ (pair : Pair). pair.right) pairs → made ≡ map (λ place. get_or codes place 0) rights
      → made ≡ map (λ pair. code_or_zero (code_in so_far rows pair source)) pairs
  right_codes codes rights made past codes_are rights_are made_is =
      made_is ∙ codes_at rows.rows (at - width) (λ (pair : Pair). pair.right) pairs codes rights codes_are rights_are
      ∙ split false (lt_false at so_far.arity (omega (arith, past, width_is)))

  pub no_codes : (more : ℕ) (made : List ℕ) → width ≤ at → more ≤ at - width → more ≡ rows.arity → HaveLength rows.arity rows.rows
      → made ≡ map (λ _. 0) pairs → made ≡ map (λ pair. code_or_zero (code_in so_far rows pair source)) pairs
  no_codes more made past short more_is fit made_is =
      made_is ∙ map_agree (λ _. 0) (λ (pair : Pair). code_or_zero (slice_get (get_or rows.rows pair.right []) (at - width))) pairs
      (λ pair inside. ap code_or_zero (sym (none_past rows.rows rows.arity (at - width) pair.right fit (omega (arith, short, more_is)))))
      ∙ split false (lt_false at so_far.arity (omega (arith, past, width_is)))

-- ---- rows of the columns

module _ {X Y : Type 0} (code : X → Y → ℕ) (xs : List X) (ys : List Y) where
  abbrev columns : List (List ℕ)
  columns = map (λ x. map (λ y. code x y) ys) xs

  pub columns_fit : (made : List (List ℕ)) (count : ℕ) → made ≡ columns → count ≡ length ys → HaveLength count made
  columns_fit made count made_is count_is it inside =
      let found = Contains-map_from (λ x. map (λ y. code x y) ys) xs it (subst (λ them. Contains them it) made_is inside) in
      ap length (sym found.2) ∙ length-map ys (code found.0) ∙ sym count_is

  -- the row at a place is what is kept of what stands there
  row_there : (place : ℕ) (y : Y) → slice_get ys place ≡ Some y → row_at columns place ≡ map (λ x. code x y) xs
  row_there place y found =
      map_then (λ x. map (λ y. code x y) ys) (λ column. get_or column place 0) xs
      ∙ map_agree (λ x. get_or (map (λ y. code x y) ys) place 0) (λ x. code x y) xs
      (λ x inside. get_or_from_slice_get (map (code x) ys) place (code x y) 0 (map_at (code x) ys place y found))

  rows_there : rows_of columns (length ys) ≡ map (λ y. map (λ x. code x y) xs) ys
  rows_there = map_by_places (row_at columns) (range_with_len 0 (length ys)) (map (λ y. map (λ x. code x y) xs) ys)
      (length-range_with_len 0 (length ys) ∙ sym (length-map ys (λ y. map (λ x. code x y) xs)))
      (λ place number row at found.
      let (y, there, is) = map_at-from (λ y. map (λ x. code x y) xs) ys place row found in
      let same : number ≡ 0 + place = same_Some number (0 + place) (sym at ∙ range_at 0 (length ys) place (slice_get_within ys place y there)) in
      ap (row_at columns) (same ∙ omega arith) ∙ row_there place y there ∙ is)

  pub rows_are : (made : List (List ℕ)) (count : ℕ) → made ≡ columns → count ≡ length ys → rows_of made count ≡ map (λ y. map (λ x. code x y) xs) ys
  rows_are made count made_is count_is = (λ i. rows_of (made_is i) (count_is i)) ∙ rows_there

module _ (kept : List Source) (so_far rows : CodedRows) (pairs : List Pair) (columns : List (List ℕ)) (count : ℕ)
    (columns_are : columns ≡ map (λ source. map (λ pair. code_or_zero (code_in so_far rows pair source)) pairs) kept) (count_is : count ≡ length pairs) where
  pub kept_fit : HaveLength count columns
  kept_fit = columns_fit (λ source pair. code_or_zero (code_in so_far rows pair source)) kept pairs columns count columns_are count_is

  pub kept_are : ◌≡◌ {A = CodedRows} (record { arity = length columns; rows = rows_of columns count })
      (record { arity = length kept; rows = kept_rows kept so_far rows pairs })
  kept_are =
      let arity : length columns ≡ length kept =
      ap length columns_are ∙ length-map kept (λ source. map (λ pair. code_or_zero (code_in so_far rows pair source)) pairs) in
      let same : rows_of columns count ≡ kept_rows kept so_far rows pairs =
      rows_are (λ source pair. code_or_zero (code_in so_far rows pair source)) kept pairs columns count columns_are count_is in
      λ i. record { arity = arity i; rows = same i }

-- ---- whether sources name codes

early_code : (cells : List ℕ) (source : Source) → IsEarly (length cells) source → (code : ℕ) × (code_at cells source ≡ Some code)
early_code cells (Code code) early = (code, refl)
early_code cells (Cell place) early = thing_at cells place early

pub early_codes : (cells : List ℕ) (sources : List Source) → ((source : Source) → Contains sources source → IsEarly (length cells) source)
    → (codes : List ℕ) × NamesCodes cells sources codes
early_codes cells [] early = ([], refl)
early_codes cells (source ∷ sources) early =
    let first = early_code cells source (early source (Contains-head source sources)) in
    let rest = early_codes cells sources (λ it inside. early it (Contains-rest source sources it inside)) in
    (first.0 ∷ rest.0, (λ i. first.1 i ∷ rest.1 i))

code_early : (cells : List ℕ) (source : Source) (code : ℕ) → code_at cells source ≡ Some code → IsEarly (length cells) source
code_early cells (Code number) code is = record {}
code_early cells (Cell place) code is = slice_get_within cells place code is

pub codes_early : (cells : List ℕ) (sources : List Source) (codes : List ℕ) → NamesCodes cells sources codes → (source : Source) → Contains sources source
    → IsEarly (length cells) source
codes_early cells sources codes named source inside =
    let (place, there) = place-from_Contains sources source inside in
    let (code, _, is) = map_at-from Some codes place (code_at cells source)
    (ap (λ them. slice_get them place) (sym named) ∙ map_at (code_at cells) sources place source there) in
    code_early cells source code (sym is)

module _ (sources : List Source) (so_far rows : CodedRows) (width more : ℕ) (width_is : width ≡ so_far.arity) (more_is : more ≡ rows.arity)
    (so_far_fit : HaveLength so_far.arity so_far.rows) (rows_fit : HaveLength rows.arity rows.rows) where
  joined_long : (cells row : List ℕ) → Contains so_far.rows cells → Contains rows.rows row → width + more ≡ length (cells ++ row)
  joined_long cells row here there =
      (λ i. width_is i + more_is i) ∙ (λ i. sym (so_far_fit cells here) i + sym (rows_fit row there) i) ∙ sym (length-append cells row)

  pub all_named : ((source : Source) → Contains sources source → IsEarly (width + more) source) → NameAll sources so_far.rows rows.rows
  all_named early cells row here there = early_codes (cells ++ row) sources
      (λ source inside. subst (λ n. IsEarly n source) (joined_long cells row here there) (early source inside))

  pub none_named : (((source : Source) → Contains sources source → IsEarly (width + more) source) → ⊥) → NameNone sources so_far.rows rows.rows
  none_named late cells row here there (codes, named) = late (λ source inside.
      subst (λ n. IsEarly n source) (sym (joined_long cells row here there)) (codes_early (cells ++ row) sources codes named source inside))
