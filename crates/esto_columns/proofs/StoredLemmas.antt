-- Rows that hold inputs.
use Rattle.std.proofs.Common.{◌≡◌, ℕ, suc, ◌+◌, ◌<◌, Bool, true, false, cond, eqb, List, [], ◌∷◌, ◌++◌, map, length, get_or, take, Some, slice_get, Contains}
use Rattle.std.proofs.Common.{refl, sym, ap, ◌∙◌, subst, arith, inl, inr, zero}
use Rattle.std.specs.List.{filter}
use Rattle.std.proofs.lemmas.List.{append-nil, append_assoc, length-append, length-map, get_or_at, map_more}
use Rattle.std.proofs.lemmas.List.Elements.{filter-append}
use Rattle.std.proofs.lemmas.Option.{get_or_from_slice_get}
use Rattle.esto_columns.specs.declared.fragment.Input.{Input}
use Rattle.esto_columns.specs.Asked.{holds_all}
use Rattle.esto_columns.specs.CodedRows.{CodedRows}
use Rattle.esto_columns.specs.Columns.{HaveLength}
use Rattle.esto_columns.specs.Picked.{places_where, rows_at}
use Rattle.esto_columns.specs.Indexed.{key_at, AreAmongPlaces}
use Rattle.std.specs.Str.{bytes_eq}
use Rattle.std.proofs.lemmas.Slice.Eq.{bytes_eq-Decides}
use Rattle.std.proofs.lemmas.Bool.{and_parts}
use Rattle.std.proofs.lemmas.Bool.Decides.{Decides-eqb}
use Rattle.esto_term.proofs.ListLemmas.{Contains-nil, Contains-cases, Contains-at, Contains-head, Contains-rest}

-- ---- one row

module _ (rows : List (List ℕ)) (inputs : List Input) (at arity : ℕ) (row given : List ℕ) (there : slice_get rows at ≡ Some row) (same : given ≡ row)
    (fits : HaveLength arity rows) where
  pub row_long : length given ≡ arity
  row_long = ap length same ∙ fits row (Contains-at rows at row there)

  pub row_columns : ((input : Input) → Contains inputs input → input.column < arity) → (input : Input) → Contains inputs input → input.column < length given
  row_columns columns input inside = subst (λ long. input.column < long) (sym row_long) (columns input inside)

  row_is : given ≡ get_or rows at []
  row_is = same ∙ sym (get_or_from_slice_get rows at row [] there)

  pub left_row : (value : CodedRows) → false ≡ holds_all inputs given
      → ◌≡◌ {A = CodedRows} value (record { arity = value.arity; rows = value.rows ++ filter (holds_all inputs) (get_or rows at [] ∷ []) })
  left_row value told =
      let none : filter (holds_all inputs) (get_or rows at [] ∷ []) ≡ [] =
      ap (λ answer. cond answer (get_or rows at [] ∷ []) []) (ap (holds_all inputs) (sym row_is) ∙ sym told) in
      let same_rows : value.rows ≡ value.rows ++ filter (holds_all inputs) (get_or rows at [] ∷ []) =
      sym (append-nil value.rows) ∙ ap (λ them. value.rows ++ them) (sym none) in λ i. record { arity = value.arity; rows = same_rows i }

  pub kept_row : (value new : CodedRows) (added : List ℕ) → added ≡ row → true ≡ holds_all inputs given
      → new ≡ record { arity = value.arity; rows = value.rows ++ added ∷ [] }
      → new ≡ record { arity = value.arity; rows = value.rows ++ filter (holds_all inputs) (get_or rows at [] ∷ []) }
  kept_row value new added same_row told is =
      let one : filter (holds_all inputs) (get_or rows at [] ∷ []) ≡ added ∷ [] =
      ap (λ answer. cond answer (get_or rows at [] ∷ []) []) (ap (holds_all inputs) (sym row_is) ∙ sym told)
      ∙ ap (λ it. it ∷ []) (sym row_is ∙ same ∙ sym same_row) in
      is ∙ (λ i. record { arity = value.arity; rows = value.rows ++ sym one i })

-- one more pick
pub held_more : (rows : List (List ℕ)) (places : List ℕ) (inputs : List Input) (arity count place : ℕ) (held new : CodedRows) → count < length places
    → place ≡ get_or places count 0
    → held ≡ record { arity = arity; rows = filter (holds_all inputs) (rows_at rows (take count places)) }
    → new ≡ record { arity = held.arity; rows = held.rows ++ filter (holds_all inputs) (get_or rows place [] ∷ []) }
    → new ≡ record { arity = arity; rows = filter (holds_all inputs) (rows_at rows (take (count + 1) places)) }
held_more rows places inputs arity count place held new below at so_far is =
    let more : rows_at rows (take (count + 1) places) ≡ rows_at rows (take count places) ++ get_or rows place [] ∷ [] =
    map_more (λ it. get_or rows it []) places count 0 below ∙ ap (λ it. rows_at rows (take count places) ++ get_or rows it [] ∷ []) (sym at) in
    let all : filter (holds_all inputs) (rows_at rows (take (count + 1) places)) ≡ filter (holds_all inputs) (rows_at rows (take count places))
    ++ filter (holds_all inputs) (get_or rows place [] ∷ []) =
    ap (filter (holds_all inputs)) more ∙ filter-append (holds_all inputs) (rows_at rows (take count places)) (get_or rows place [] ∷ []) in
    is ∙ ap (λ (it : CodedRows). record { arity = it.arity; rows = it.rows ++ filter (holds_all inputs) (get_or rows place [] ∷ []) }) so_far
    ∙ (λ i. record { arity = arity; rows = sym all i })

-- ---- the rows at the places that pass a test are those that pass it

-- where the test passes there is a place
pub where_has : {X : Type 0} (test : X → Bool) (from : ℕ) (xs : List X) (place : ℕ) (x : X) → slice_get xs place ≡ Some x → test x ≡ true
    → Contains (places_where test from xs) (from + place)
where_has test from [] place x at passes = absurd (cc)
where_has test from (first ∷ rest) zero x at passes =
    let is : first ≡ x = cc in
    let told : test first ≡ true = ap test is ∙ passes in
    rw told (subst (Contains (from ∷ places_where test (from + 1) rest)) (omega arith) (Contains-head from (places_where test (from + 1) rest)))
where_has test from (first ∷ rest) (suc place) x at passes =
    by (test first) (subst (Contains (places_where test (from + 1) rest)) (omega arith) (where_has test (from + 1) rest place x at passes))
  where
    by : (answer : Bool) → Contains (places_where test (from + 1) rest) (from + suc place)
        → Contains (cond answer (from ∷ places_where test (from + 1) rest) (places_where test (from + 1) rest)) (from + suc place)
    by true inside = Contains-rest from (places_where test (from + 1) rest) (from + suc place) inside
    by false inside = inside

pub where_within : {X : Type 0} (test : X → Bool) (from : ℕ) (xs : List X) (place : ℕ) → Contains (places_where test from xs) place → place < from + length xs
where_within test from [] place inside = absurd (Contains-nil place inside)
where_within test from (x ∷ xs) place inside = by (test x) (λ later. let below = where_within test (from + 1) xs place later in omega (arith, below)) inside
  where
    by : (answer : Bool) → (Contains (places_where test (from + 1) xs) place → place < from + suc (length xs))
        → Contains (cond answer (from ∷ places_where test (from + 1) xs) (places_where test (from + 1) xs)) place → place < from + suc (length xs)
    by true again there = elim (Contains-cases from (places_where test (from + 1) xs) place there) [ inl is ↦ omega (arith, is) | inr later ↦ again later ]
    by false again there = again there

module _ {Y : Type 0} (test : Y → Bool) (seen : List ℕ → Y) where
  rows_where : (before rows : List (List ℕ))
      → rows_at (before ++ rows) (places_where test (length before) (map seen rows)) ≡ filter (λ row. test (seen row)) rows
  rows_where before [] = refl
  rows_where before (row ∷ rows) =
      let long = length-append before (row ∷ []) in
      let again : rows_at (before ++ row ∷ rows) (places_where test (length before + 1) (map seen rows)) ≡ filter (λ it. test (seen it)) rows =
      (λ i. rows_at (sym (append_assoc before (row ∷ []) rows) i) (places_where test (sym long i) (map seen rows))) ∙ rows_where (before ++ row ∷ []) rows in
      by (test (seen row)) again
    where
      by : (answer : Bool) → rows_at (before ++ row ∷ rows) (places_where test (length before + 1) (map seen rows)) ≡ filter (λ it. test (seen it)) rows
          → rows_at (before ++ row ∷ rows)
          (cond answer (length before ∷ places_where test (length before + 1) (map seen rows)) (places_where test (length before + 1) (map seen rows)))
          ≡ cond answer (row ∷ filter (λ it. test (seen it)) rows) (filter (λ it. test (seen it)) rows)
      by true again = (λ i. get_or_at before row rows [] (length before) refl i ∷ again i)
      by false again = again

-- what passes a finer test passes a coarser one
filter_finer : {X : Type 0} (fine coarse : X → Bool) → ((x : X) → fine x ≡ true → coarse x ≡ true) → (xs : List X)
    → filter fine (filter coarse xs) ≡ filter fine xs
filter_finer fine coarse finer [] = refl
filter_finer fine coarse finer (x ∷ xs) = by (coarse x) refl (filter_finer fine coarse finer xs)
  where
    by : (c : Bool) → coarse x ≡ c → filter fine (filter coarse xs) ≡ filter fine xs
        → filter fine (cond c (x ∷ filter coarse xs) (filter coarse xs)) ≡ cond (fine x) (x ∷ filter fine xs) (filter fine xs)
    by true told rest = ap (λ them. cond (fine x) (x ∷ them) them) rest
    by false told rest = rest ∙ missed (fine x) refl
      where
        missed : (f : Bool) → fine x ≡ f → filter fine xs ≡ cond f (x ∷ filter fine xs) (filter fine xs)
        missed true also = let wrong : true ≡ false = sym (finer x also) ∙ told in cc
        missed false also = refl

-- a row that holds all inputs holds each
pub holds_one : (inputs : List Input) (row : List ℕ) (input : Input) → Contains inputs input → holds_all inputs row ≡ true
    → eqb (get_or row input.column 0) input.code ≡ true
holds_one [] row input inside holds = absurd (Contains-nil input inside)
holds_one (first ∷ inputs) row input inside holds = elim (Contains-cases first inputs input inside) [
  | inl is ↦ ap (λ it. eqb (get_or row it.column 0) it.code) (sym is) ∙ (and_parts (eqb (get_or row first.column 0) first.code) (holds_all inputs row) holds).0
  | inr later ↦ holds_one inputs row input later (and_parts (eqb (get_or row first.column 0) first.code) (holds_all inputs row) holds).1
]

module _ {Y : Type 0} (test : Y → Bool) (seen : List ℕ → Y) (rows : List (List ℕ)) (inputs : List Input) (things : List Y) (places : List ℕ)
    (is_seen : things ≡ map seen rows) (are : places ≡ places_where test 0 things) where
  pub found_within : (place : ℕ) → Contains places place → place < length rows
  found_within place inside =
      let below = where_within test 0 things place (subst (λ them. Contains them place) are inside) in
      let same = ap length is_seen in let long = length-map rows seen in omega (arith, below, same, long)

  pub found_all : ((row : List ℕ) → holds_all inputs row ≡ true → test (seen row) ≡ true) → (arity : ℕ) (held : CodedRows)
      → held ≡ record { arity = arity; rows = filter (holds_all inputs) (rows_at rows places) }
      → held ≡ record { arity = arity; rows = filter (holds_all inputs) rows }
  found_all finer arity held is =
      let all : rows_at rows places ≡ filter (λ row. test (seen row)) rows =
      ap (rows_at rows) are ∙ ap (λ them. rows_at rows (places_where test 0 them)) is_seen ∙ rows_where test seen [] rows in
      let same : filter (holds_all inputs) (rows_at rows places) ≡ filter (holds_all inputs) rows =
      ap (filter (holds_all inputs)) all ∙ filter_finer (holds_all inputs) (λ row. test (seen row)) finer rows in
      is ∙ (λ i. record { arity = arity; rows = same i })

-- a row that holds all inputs has their codes in their columns
pub holds_key : (inputs : List Input) (columns codes row : List ℕ) → columns ≡ map (λ (input : Input). input.column) inputs
    → codes ≡ map (λ (input : Input). input.code) inputs → holds_all inputs row ≡ true
    → bytes_eq (key_at columns row) codes ≡ true
holds_key inputs columns codes row is_columns are_codes holds =
    (bytes_eq-Decides (key_at columns row) codes).1
    (ap (λ them. key_at them row) is_columns ∙ all inputs (λ input inside. holds_one inputs row input inside holds) ∙ sym are_codes)
  where
    all : (own : List Input) → ((input : Input) → Contains own input → eqb (get_or row input.column 0) input.code ≡ true)
        → key_at (map (λ (input : Input). input.column) own) row ≡ map (λ (input : Input). input.code) own
    all [] each = refl
    all (first ∷ own) each =
        let here = (Decides-eqb (get_or row first.column 0) first.code).0 (each first (Contains-head first own)) in
        let rest = all own (λ input inside. each input (Contains-rest first own input inside)) in λ i. here i ∷ rest i

-- the places of an index are those of rows, and the rows there that hold all inputs are all that do
module _ (rows : List (List ℕ)) (columns key places given : List ℕ) (among : AreAmongPlaces key (map (key_at columns) rows) places)
    (same : given ≡ places) where
  pub among_within : (inputs : List Input) (place : ℕ) → Contains given place → place < length rows
  among_within inputs place inside =
      found_within among.0 (key_at columns) rows inputs (map (key_at columns) rows) given refl (same ∙ among.2) place inside

  pub among_all : (inputs : List Input) → columns ≡ map (λ (input : Input). input.column) inputs → key ≡ map (λ (input : Input). input.code) inputs
      → (arity : ℕ) (held : CodedRows) → held ≡ record { arity = arity; rows = filter (holds_all inputs) (rows_at rows given) }
      → held ≡ record { arity = arity; rows = filter (holds_all inputs) rows }
  among_all inputs is_columns are_codes arity held is =
      found_all among.0 (key_at columns) rows inputs (map (key_at columns) rows) given refl (same ∙ among.2)
      (λ row holds. ap among.0 ((bytes_eq-Decides (key_at columns row) key).0 (holds_key inputs columns key row is_columns are_codes holds)) ∙ among.1)
      arity held is

pub some_inputs : (inputs : List Input) → false ≡ eqb (length inputs) 0 → 0 < length inputs
some_inputs [] e = absurd (cc)
some_inputs (first ∷ inputs) e = omega arith

-- each row holds no inputs
pub all_hold : (inputs : List Input) → true ≡ eqb (length inputs) 0 → (rows : List (List ℕ)) → filter (holds_all inputs) rows ≡ rows
all_hold [] none [] = refl
all_hold [] none (row ∷ rows) = ap (λ them. row ∷ them) (all_hold [] none rows)
all_hold (input ∷ inputs) none rows = let is = (Decides-eqb (suc (length inputs)) 0).0 (sym none) in absurd (omega (arith, is))
