-- Codes that sources name in pairs of rows, and what is gained by a pair.
use Rattle.std.proofs.Common.{◌≡◌, ℕ, ◌-◌, ◌<◌, ◌≤◌, nat_lt, Bool, not, true, false, cond, List, [], ◌∷◌, ◌++◌, map, length, get_or, Option, Some, None}
use Rattle.std.proofs.Common.{slice_get, Contains, refl, sym, ap, ◌∙◌, subst, arith}
use Rattle.std.specs.Option.{option_eq}
use Rattle.std.proofs.Math.Dec.{eqb}
use Rattle.std.proofs.lemmas.Bool.{eqb-true, not-false}
use Rattle.std.proofs.lemmas.Bool.Decides.{nat_tests}
use Rattle.std.proofs.lemmas.List.Elements.{Contains-get_or}
use Rattle.esto_columns.specs.CodedRows.{CodedRows}
use Rattle.esto_columns.specs.Columns.{HaveLength}
use Rattle.esto_term.proofs.ListLemmas.{Contains-at, Contains-map, map_agree}
use Rattle.esto_steps.specs.declared.pairs.Pair.{Pair}
use Rattle.esto_steps.specs.declared.steps.Source.{Source}
use Rattle.esto_steps.specs.declared.steps.Source.TheVariants.{Code, Cell}
use Rattle.esto_steps.specs.Meaning.{code_at}
use Rattle.esto_steps.specs.Named.{NamesCodes}
use Rattle.esto_steps.specs.Paired.{code_past, code_in, code_or_zero, kept_of, kept_rows, NameAll}
use Rattle.esto_steps.proofs.NamedLemmas.{front, back, lt_is, lt_not}

-- the answers to the test whether a place is below
pub lt_true : (place width : ℕ) → place < width → nat_lt place width ≡ true
lt_true place width below = grind (arith, nat_tests)

pub lt_false : (place width : ℕ) → width ≤ place → nat_lt place width ≡ false
lt_false place width past = grind (arith, nat_tests)

-- a cell of the row so far
pub cell_before : (width : ℕ) (cells row : List ℕ) (place : ℕ) → place < width → code_past width cells row (Cell place) ≡ slice_get cells place
cell_before width cells row place below = ap (λ answer. cond answer (slice_get cells place) (slice_get row (place - width))) (lt_true place width below)

-- a cell of the row after it
pub cell_after : (width : ℕ) (cells row : List ℕ) (place : ℕ) → width ≤ place → code_past width cells row (Cell place) ≡ slice_get row (place - width)
cell_after width cells row place past = ap (λ answer. cond answer (slice_get cells place) (slice_get row (place - width))) (lt_false place width past)

-- where the cells are so many, it is the code in the cells with the row after them
pub past_is : (width : ℕ) (cells row : List ℕ) (source : Source) → length cells ≡ width → code_past width cells row source ≡ code_at (cells ++ row) source
past_is width cells row (Code code) long = refl
past_is width cells row (Cell place) long = by (nat_lt place width) refl
  where
    by : (answer : Bool) → nat_lt place width ≡ answer → cond answer (slice_get cells place) (slice_get row (place - width)) ≡ slice_get (cells ++ row) place
    by true is = sym (front cells row place (let below = lt_is place width is in omega (arith, below, long)))
    by false is = ap (λ n. slice_get row (place - n)) (sym long) ∙ sym (back cells row place (let past = lt_not place width is in omega (arith, past, long)))

-- the codes that sources name are what is kept
pub named_is_kept : (width : ℕ) (cells row : List ℕ) (kept : List Source) (codes : List ℕ) → length cells ≡ width → NamesCodes (cells ++ row) kept codes
    → map (λ source. code_or_zero (code_past width cells row source)) kept ≡ codes
named_is_kept width cells row kept codes long named = names kept codes named
  where
    names : (sources : List Source) (them : List ℕ) → NamesCodes (cells ++ row) sources them
        → map (λ source. code_or_zero (code_past width cells row source)) sources ≡ them
    names [] [] named = refl
    names [] (code ∷ rest) named = absurd (cc)
    names (source ∷ sources) [] named = absurd (cc)
    names (source ∷ sources) (code ∷ rest) named =
        let first : code_at (cells ++ row) source ≡ Some code = cc in
        let later : NamesCodes (cells ++ row) sources rest = cc in
        λ i. (ap code_or_zero (past_is width cells row source long ∙ first) i) ∷ names sources rest later i

-- codes that are told to be no different are the same
pub same_codes : (one other : Option ℕ) → not (option_eq eqb one other) ≡ false → one ≡ other
same_codes None None told = refl
same_codes None (Some code) told = absurd (cc)
same_codes (Some code) None told = absurd (cc)
same_codes (Some code) (Some other) told = ap Some (eqb-true code other (not-false (eqb code other) told))

-- what is kept of a pair are the codes that the sources name in its rows
pub kept_named : (kept : List Source) (so_far rows : CodedRows) (pair : Pair) → NameAll kept so_far.rows rows.rows → HaveLength so_far.arity so_far.rows
    → pair.left < length so_far.rows → pair.right < length rows.rows
    → NamesCodes (get_or so_far.rows pair.left [] ++ get_or rows.rows pair.right []) kept (kept_of kept so_far rows pair)
kept_named kept so_far rows pair all long left right =
    let cells = get_or so_far.rows pair.left [] in
    let row = get_or rows.rows pair.right [] in
    let among = Contains-get_or so_far.rows pair.left [] left in
    let names = all cells row among (Contains-get_or rows.rows pair.right [] right) in
    subst (NamesCodes (cells ++ row) kept) (sym (named_is_kept so_far.arity cells row kept names.0 (long cells among) names.1)) names.1

-- ---- pairs that are the same in what is kept

pub same_kept : (kept : List Source) (so_far rows : CodedRows) (pairs : List Pair) (at : ℕ) (other pair : Pair) → slice_get pairs at ≡ Some other
    → ((source : Source) → Contains kept source → code_in so_far rows other source ≡ code_in so_far rows pair source)
    → Contains (kept_rows kept so_far rows pairs) (kept_of kept so_far rows pair)
same_kept kept so_far rows pairs at other pair there same =
    subst (Contains (kept_rows kept so_far rows pairs))
    (map_agree (λ source. code_or_zero (code_in so_far rows other source)) (λ source. code_or_zero (code_in so_far rows pair source)) kept
    (λ source inside. ap code_or_zero (same source inside)))
    (Contains-map (kept_of kept so_far rows) pairs other (Contains-at pairs at other there))
