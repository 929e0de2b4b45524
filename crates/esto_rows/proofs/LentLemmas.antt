-- Rows of texts that are lent, row after row in one list.
use Rattle.std.proofs.Common.{◌≡◌, ◌↔◌, inl, inr, ℕ, suc, ◌+◌, ◌-◌, ◌<◌, ◌≤◌, List, [], ◌∷◌, ◌++◌, map, length, take, drop, Some, slice_get, get_or, Contains}
use Rattle.std.proofs.Common.{refl, sym, ap, ◌∙◌, subst, arith, append_assoc}
use Rattle.std.specs.List.{concat}
use Rattle.std.proofs.lemmas.List.{append-nil, drop_at, drop-map, length-map, map-append, map_more, map_push, take_at, take-map, take_more}
use Rattle.std.proofs.lemmas.List.Folds.{concat-append}
use Rattle.std.proofs.lemmas.Option.{get_or_from_slice_get, same_Some}
use Rattle.esto_columns.specs.Columns.{HaveLength}
use Rattle.esto_columns.specs.Interned.{AreCodesOf, AreCodedRows}
use Rattle.esto_term.proofs.ListLemmas.{Contains-nil, Contains-head, Contains-rest, Contains-cases, map_one}
use Rattle.esto_rows.specs.Lent.{AddsTextsOf, rows_in}

-- ---- the texts of codes

-- the texts of the codes so far, with that of one more
pub texts_pushed : {X : Type 0} (seen : X → List ℕ) (texts : List (List ℕ)) (row : List ℕ) (place : ℕ) (old : List (List ℕ)) (now new : List X) (thing : X)
    → place < length row → new ≡ now ++ thing ∷ [] → slice_get texts (get_or row place 0) ≡ Some (seen thing)
    → AddsTextsOf texts (take place row) old (map seen now) → AddsTextsOf texts (take (place + 1) row) old (map seen new)
texts_pushed seen texts row place old now new thing within grown found so_far =
    ap (λ all. map Some (map seen all)) grown ∙ ap (map Some) (map_push seen now thing) ∙ map_push Some (map seen now) (seen thing)
    ∙ ap (λ it. it ++ Some (seen thing) ∷ []) so_far
    ∙ append_assoc (map Some old) (map (slice_get texts) (take place row)) (Some (seen thing) ∷ [])
    ∙ ap (λ one. map Some old ++ (map (slice_get texts) (take place row) ++ one ∷ [])) (sym found)
    ∙ ap (λ it. map Some old ++ it) (sym (map_more (slice_get texts) row place 0 within))

-- the texts of the rows so far, with those of one more
pub row_pushed : (texts rows : List (List ℕ)) (at : ℕ) (row given : List ℕ) (old new : List (List ℕ)) → at < length rows → slice_get rows at ≡ Some row
    → given ≡ row → AreCodesOf texts (concat (take at rows)) old → AddsTextsOf texts given old new → AreCodesOf texts (concat (take (at + 1) rows)) new
row_pushed texts rows at row given old new below found same are adds =
    ap (λ them. map (slice_get texts) (concat them))
    (take_more rows at row below ∙ ap (λ it. take at rows ++ it ∷ []) (get_or_from_slice_get rows at row row found ∙ sym same))
    ∙ ap (map (slice_get texts)) (concat-append (take at rows) (given ∷ []) ∙ ap (λ it. concat (take at rows) ++ it) (append-nil given))
    ∙ map-append (slice_get texts) (concat (take at rows)) given ∙ ap (λ it. it ++ map (slice_get texts) given) are ∙ sym adds

-- ---- the rows

-- texts that stand row after row are those of the rows of codes
rows_coded : (texts : List (List ℕ)) (arity : ℕ) (rows them : List (List ℕ)) → HaveLength arity rows → AreCodesOf texts (concat rows) them
    → AreCodedRows texts rows (rows_in arity (length rows) them)
rows_coded texts arity [] them long are = refl
rows_coded texts arity (row ∷ rows) them long are =
    let own : length (map (slice_get texts) row) ≡ arity = length-map row (slice_get texts) ∙ long row (Contains-head row rows) in
    let split : map (slice_get texts) row ++ map (slice_get texts) (concat rows) ≡ map Some them =
    sym (map-append (slice_get texts) row (concat rows)) ∙ are in
    let first : map (slice_get texts) row ≡ map Some (take arity them) =
    sym (take_at (map (slice_get texts) row) (map (slice_get texts) (concat rows)) arity own) ∙ ap (take arity) split ∙ take-map Some arity them in
    let rest : map (slice_get texts) (concat rows) ≡ map Some (drop arity them) =
    sym (drop_at (map (slice_get texts) row) (map (slice_get texts) (concat rows)) arity own) ∙ ap (drop arity) split ∙ drop-map Some arity them in
    let later = rows_coded texts arity rows (drop arity them) (λ it inside. long it (Contains-rest row rows it inside)) rest in
    λ i. first i ∷ later i

-- the same, where the rows' length and their number are given otherwise
pub rows_coded_by : (texts : List (List ℕ)) (arity wide count : ℕ) (rows them : List (List ℕ)) → arity ≡ wide → HaveLength wide rows
    → count ≡ length rows → AreCodesOf texts (concat rows) them → AreCodedRows texts rows (rows_in arity count them)
rows_coded_by texts arity wide count rows them is long counted are =
    subst (λ it. AreCodedRows texts rows (rows_in arity it them)) (sym counted)
    (rows_coded texts arity rows them (subst (λ it. HaveLength it rows) (sym is) long) are)

-- each of the coded rows has its codes
codes_of_row : (texts coded : List (List ℕ)) (rows : List (List (List ℕ))) → AreCodedRows texts coded rows → (row : List (List ℕ)) → Contains rows row
    → (own : List ℕ) × Contains coded own × AreCodesOf texts own row
codes_of_row texts coded [] are row inside = absurd (Contains-nil row inside)
codes_of_row texts [] (first ∷ rows) are row inside = absurd (cc)
codes_of_row texts (codes ∷ coded) (first ∷ rows) are row inside = elim (Contains-cases first rows row inside) [
  | inl is ↦ let here : map (slice_get texts) codes ≡ map Some first = cc in (codes, Contains-head codes coded, subst (AreCodesOf texts codes) is here)
  | inr later ↦ let found = codes_of_row texts coded rows (cc) row later in (found.0, Contains-rest codes coded found.0 found.1, found.2)
]

-- and codes have their row
row_of_codes : (texts coded : List (List ℕ)) (rows : List (List (List ℕ))) → AreCodedRows texts coded rows → (own : List ℕ) → Contains coded own
    → (row : List (List ℕ)) × Contains rows row × AreCodesOf texts own row
row_of_codes texts [] rows are own inside = absurd (Contains-nil own inside)
row_of_codes texts (codes ∷ coded) [] are own inside = absurd (cc)
row_of_codes texts (codes ∷ coded) (first ∷ rows) are own inside = elim (Contains-cases codes coded own inside) [
  | inl is ↦ let here : map (slice_get texts) codes ≡ map Some first = cc in
      (first, Contains-head first rows, subst (λ it. AreCodesOf texts it first) is here)
  | inr later ↦ let found = row_of_codes texts coded rows (cc) own later in (found.0, Contains-rest first rows found.0 found.1, found.2)
]

-- a row is one of the coded rows exactly where its codes are among the codes
pub coded_members : (texts coded : List (List ℕ)) (rows : List (List (List ℕ))) → AreCodedRows texts coded rows
    → (row : List (List ℕ)) → Contains rows row ↔ ((own : List ℕ) × Contains coded own × AreCodesOf texts own row)
coded_members texts coded rows are row = (
  codes_of_row texts coded rows are row,
  λ (own, among, codes_are). let found = row_of_codes texts coded rows are own among in
      subst (Contains rows) (map_one Some same_Some found.0 row (sym found.2 ∙ codes_are)) found.1,
)

-- so it is one of the same rows in another order
pub sorted_members : (texts coded : List (List ℕ)) (rows sorted : List (List (List ℕ))) → AreCodedRows texts coded rows
    → ((row : List (List ℕ)) → Contains sorted row ↔ Contains rows row)
    → (row : List (List ℕ)) → Contains sorted row ↔ ((own : List ℕ) × Contains coded own × AreCodesOf texts own row)
sorted_members texts coded rows sorted are same row =
    let members = coded_members texts coded rows are row in
    (λ inside. members.0 ((same row).0 inside), λ codes. (same row).1 (members.1 codes))

-- ---- parts of the list

module _ {X Y : Type 0} (cells : Y → List X) (bytes : X → List ℕ) where
  abbrev pub seen : Y → List (List ℕ)
  seen row = map bytes (cells row)

  -- the rows so far, with the first of those that are left
  pub parts_more : (arity count at : ℕ) (rows more : List Y) (row : Y) (rest next : List X) (all : List (List (List ℕ))) → at < count
      → more ≡ rows ++ row ∷ [] → cells row ≡ take arity rest → next ≡ drop arity rest
      → map seen rows ++ rows_in arity (count - at) (map bytes rest) ≡ all → map seen more ++ rows_in arity (count - (at + 1)) (map bytes next) ≡ all
  parts_more arity count at rows more row rest next all below pushed is goes own =
      ap (λ it. it ++ rows_in arity (count - (at + 1)) (map bytes next)) (ap (map seen) pushed ∙ map_push seen rows row)
      ∙ append_assoc (map seen rows) (seen row ∷ []) (rows_in arity (count - (at + 1)) (map bytes next))
      ∙ (λ i. map seen rows ++ first i ∷ rows_in arity (count - (at + 1)) (later i))
      ∙ ap (λ left. map seen rows ++ rows_in arity left (map bytes rest)) counted ∙ own
    where
      first : seen row ≡ take arity (map bytes rest)
      first = ap (map bytes) is ∙ sym (take-map bytes arity rest)

      later : map bytes next ≡ drop arity (map bytes rest)
      later = ap (map bytes) goes ∙ sym (drop-map bytes arity rest)

      counted : suc (count - (at + 1)) ≡ count - at
      counted = omega (arith, below)

  pub parts_end : (arity count at : ℕ) (rows : List Y) (rest : List X) (all : List (List (List ℕ))) → count ≤ at
      → map seen rows ++ rows_in arity (count - at) (map bytes rest) ≡ all → map seen rows ≡ all
  parts_end arity count at rows rest all end own =
      let none : count - at ≡ 0 = omega (arith, end) in
      sym (append-nil (map seen rows)) ∙ ap (λ left. map seen rows ++ rows_in arity left (map bytes rest)) (sym none) ∙ own
