-- Rows that are kept as codes of their texts.
use Rattle.std.proofs.Common.{◌≡◌, ℕ, zero, suc, ◌<◌, List, [], ◌∷◌, map, length, get_or, set, All, Some, slice_get, Contains, refl, sym, ap, ◌∙◌, subst, arith}
use Rattle.std.specs.Prelude.{Option, Result, Ok, Err, OnErr}
use Rattle.std.specs.Result.{IsErrAnd}
use Rattle.std.proofs.lemmas.List.{get_or_append_left, length-append, length-map, map-set}
use Rattle.std.proofs.lemmas.List.Elements.{All-set, Contains-get_or}
use Rattle.std.proofs.lemmas.Option.{get_or_from_slice_get, slice_get_within}
use Rattle.esto_columns.specs.CodedRows.{CodedRows}
use Rattle.esto_columns.specs.Interned.{Grows, AreCodesOf, AreCodedRows}
use Rattle.esto_columns.specs.declared.stored.StoredRows.{StoredRows}
use Rattle.esto_docs.specs.Coded.{CodesFile}
use Rattle.esto_ports.specs.FileFaults.{Gives}
use Rattle.esto_ports.specs.declared.file_fault.FileError.{FileError}
use Rattle.esto_ports.specs.declared.file_fault.FileError.TheVariants.{Fault, OutOfMemory}
use Rattle.esto_ports.specs.declared.file_fault.FileFault.{FileFault}
use Rattle.esto_steps.specs.Planned.{inputs_of}
use Rattle.esto_steps.specs.Rows.{held_by}
use Rattle.esto_stores.specs.Rows.{Row}
use Rattle.esto_term.proofs.ListLemmas.{Contains-nil, Contains-head, Contains-rest, Contains-map, Contains-map_from, map_agree, map_then, thing_at, at_left}
use Rattle.esto_views.specs.declared.fragments.FragmentDef.{FragmentDef}
use Rattle.esto_run.specs.Opened.{HaveTexts, held_of, rows_held, shape_of, texts_of, unopened}
use Rattle.esto_run.specs.Stored.{AreEmpty, stored_none}

-- what holds, holds at an error
pub at_error : {A E P : Type 0} (result : Result A E) → P → OnErr result P
at_error (Ok value) holds = tt
at_error (Err error) holds = holds

-- a file's first fault is handed on
pub fault_handed : (Has : Row → Type 0) (fault : Option FileFault) (width : ℕ) (texts : List (List ℕ)) (error : FileError)
    (result : Result (Unit {0}) FileError) → IsErrAnd result (λ handed. handed ≡ error) → CodesFile Has fault width texts (Err error) → Gives tt fault result
fault_handed Has fault width texts error (Ok value) handed codes = absurd handed
fault_handed Has fault width texts (Fault found) (Err own) handed codes = subst (λ (it : FileError). Gives (tt {0}) fault (Err it)) (sym handed) codes
fault_handed Has fault width texts OutOfMemory (Err own) handed codes = subst (λ (it : FileError). Gives (tt {0}) fault (Err it)) (sym handed) tt

-- ---- coded rows and their texts

pub text_of_codes : (texts coded : List (List ℕ)) (rows : List Row) → AreCodedRows texts coded rows → (codes : List ℕ) → Contains coded codes
    → (row : Row) × Contains rows row × AreCodesOf texts codes row
text_of_codes texts coded rows are codes inside =
    let found = Contains-map_from (map Some) rows (map (slice_get texts) codes)
    (subst (λ them. Contains them (map (slice_get texts) codes)) are (Contains-map (map (slice_get texts)) coded codes inside)) in
    (found.0, found.1, sym found.2)

pub codes_long : (texts : List (List ℕ)) (codes : List ℕ) (row : Row) → AreCodesOf texts codes row → length codes ≡ length row
codes_long texts codes row are = sym (length-map codes (slice_get texts)) ∙ ap length are ∙ length-map row Some

pub code_below : (texts : List (List ℕ)) (codes : List ℕ) (row : Row) → AreCodesOf texts codes row → (code : ℕ) → Contains codes code → code < length texts
code_below texts codes row are code inside =
    let found = Contains-map_from Some row (slice_get texts code)
    (subst (λ them. Contains them (slice_get texts code)) are (Contains-map (slice_get texts) codes code inside)) in
    slice_get_within texts code found.0 (sym found.2)

-- the texts of coded rows are the rows
text_row : (texts : List (List ℕ)) (codes : List ℕ) (row : Row) → AreCodesOf texts codes row → texts_of texts codes ≡ row
text_row texts [] [] are = refl
text_row texts [] (text ∷ row) are = absurd (cc)
text_row texts (code ∷ codes) [] are = absurd (cc)
text_row texts (code ∷ codes) (text ∷ row) are =
    let here : slice_get texts code ≡ Some text = cc in
    let first = get_or_from_slice_get texts code text [] here in let rest = text_row texts codes row (cc) in λ i. first i ∷ rest i

text_rows : (texts coded : List (List ℕ)) (rows : List Row) → AreCodedRows texts coded rows → map (texts_of texts) coded ≡ rows
text_rows texts [] [] are = refl
text_rows texts [] (row ∷ rows) are = absurd (cc)
text_rows texts (codes ∷ coded) [] are = absurd (cc)
text_rows texts (codes ∷ coded) (row ∷ rows) are =
    let here : map (slice_get texts) codes ≡ map Some row = cc in
    let first = text_row texts codes row here in let rest = text_rows texts coded rows (cc) in λ i. first i ∷ rest i

-- ---- texts that come after the old ones

module _ (old new : List (List ℕ)) (grown : Grows old new) where
  still_below : (code : ℕ) → code < length old → code < length new
  still_below code below = let long = ap length grown.1 ∙ length-append old grown.0 in omega (arith, below, long)

  kept_text : (code : ℕ) → code < length old → get_or new code [] ≡ get_or old code []
  kept_text code below = ap (λ them. get_or them code []) grown.1 ∙ get_or_append_left old grown.0 [] code below

  -- the codes of rows are those of their texts
  codes_back : (codes : List ℕ) → ((code : ℕ) → Contains codes code → code < length old) → AreCodesOf new codes (texts_of old codes)
  codes_back [] all = refl
  codes_back (code ∷ codes) all =
      let at = thing_at old code (all code (Contains-head code codes)) in
      let first : slice_get new code ≡ Some (get_or old code []) =
      ap (λ them. slice_get them code) grown.1 ∙ at_left old grown.0 code at.0 at.1 ∙ ap Some (sym (get_or_from_slice_get old code at.0 [] at.1)) in
      let rest = codes_back codes (λ it inside. all it (Contains-rest code codes it inside)) in λ i. first i ∷ rest i

  coded_back : (coded : List (List ℕ)) → ((codes : List ℕ) (code : ℕ) → Contains coded codes → Contains codes code → code < length old)
      → AreCodedRows new coded (map (texts_of old) coded)
  coded_back [] all = refl
  coded_back (codes ∷ coded) all =
      let first = codes_back codes (λ code inside. all codes code (Contains-head codes coded) inside) in
      let rest = coded_back coded (λ it code inside. all it code (Contains-rest codes coded it inside)) in λ i. first i ∷ rest i

  pub coded_held : (stored : List StoredRows) → HaveTexts old stored → (number : ℕ)
      → AreCodedRows new (held_by (map (λ own. own.rows.rows) stored) number) (held_by (rows_held (map (held_of old) stored)) number)
  coded_held [] have number = refl
  coded_held (own ∷ rest) have zero = coded_back own.rows.rows (λ codes code. have own codes code (Contains-head own rest))
  coded_held (own ∷ rest) have (suc number) = coded_held rest (λ it codes code inside. have it codes code (Contains-rest own rest it inside)) number

  module _ (stored : List StoredRows) (have : HaveTexts old stored) where
    pub texts_kept : HaveTexts new stored
    texts_kept own codes code inside among within = still_below code (have own codes code inside among within)

    pub held_kept : map (held_of new) stored ≡ map (held_of old) stored
    held_kept = map_agree (held_of new) (held_of old) stored (λ own inside. ap
        (λ them. record { shape = record { arity = own.rows.arity; ways = own.ways }; rows = them })
        (map_agree (texts_of new) (texts_of old) own.rows.rows (λ codes among. map_agree (λ code. get_or new code []) (λ code. get_or old code []) codes
        (λ code within. kept_text code (have own codes code inside among within)))))

    -- the rows of one fragment are coded anew
    module _ (number : ℕ) (fragment : FragmentDef) (rows : List Row) (coded : CodedRows) (own : StoredRows)
        (arity : coded.arity ≡ length fragment.view.head) (are : AreCodedRows new coded.rows rows)
        (is : own ≡ record { rows = coded; ways = map inputs_of fragment.access }) where
      own_held : held_of new own ≡ record { shape = shape_of fragment; rows = rows }
      own_held = ap (held_of new) is
          ∙ (λ i. record { shape = record { arity = arity i; ways = map inputs_of fragment.access }; rows = text_rows new coded.rows rows are i })

      pub held_put : map (held_of new) (set stored number own) ≡ set (map (held_of old) stored) number (record { shape = shape_of fragment; rows = rows })
      held_put = map-set (held_of new) stored number own ∙ (λ i. set (held_kept i) number (own_held i))

      abbrev HasTexts : StoredRows → Type 0
      HasTexts it = (codes : List ℕ) (code : ℕ) → Contains it.rows.rows codes → Contains codes code → code < length new

      pub texts_put : HaveTexts new (set stored number own)
      texts_put it codes code (place, below, same) = subst HasTexts same (all place it below) codes code
        where
          own_texts : HasTexts own
          own_texts = subst HasTexts (sym is) (λ them which among within.
              let found = text_of_codes new coded.rows rows are them among in code_below new them found.0 found.2 which within)

          all : All HasTexts (set stored number own)
          all = All-set HasTexts stored number own own_texts (λ k d below them which.
              texts_kept (get_or stored k d) them which (Contains-get_or stored k d below))

-- ---- no rows

pub none_have_texts : (texts : List (List ℕ)) (stored : List StoredRows) → AreEmpty stored → HaveTexts texts stored
none_have_texts texts stored empty own codes code inside among within =
    absurd (Contains-nil codes (subst (λ them. Contains them codes) (empty own inside) among))

pub none_are_empty : (fragments : List FragmentDef) (stored : List StoredRows) → stored ≡ map stored_none fragments → AreEmpty stored
none_are_empty fragments stored are own inside =
    let found = Contains-map_from stored_none fragments own (subst (λ them. Contains them own) are inside) in
    ap (λ (it : StoredRows). it.rows.rows) (sym found.2)

pub none_are_unopened : (fragments : List FragmentDef) (stored : List StoredRows) → stored ≡ map stored_none fragments
    → map (held_of []) stored ≡ map unopened fragments
none_are_unopened fragments stored are = ap (map (held_of [])) are ∙ map_then stored_none (held_of []) fragments
