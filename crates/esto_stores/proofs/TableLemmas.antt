-- Marks, the header, and the rows under it.
use Rattle.std.proofs.Common.{◌≡◌, ◌≢◌, ◌<◌, ◌≤◌, ◌+◌, ◌-◌, ◌∙◌, ◌++◌, ℕ, List, [], ◌∷◌, true, false, Some, None, get_or, take, drop, length, map, refl, ap}
use Rattle.std.proofs.Common.{sym, arith, inl, inr}
use Rattle.std.proofs.lemmas.Bool.{ne_eqb}
use Rattle.std.proofs.lemmas.List.{at_drop_more, at_drop_all, map_more, take_rest, take_all, length-map, length-take-le}
use Rattle.std.proofs.lemmas.Bool.{cases_Bool}
use Rattle.csv.specs.Reading.{is_bom, strip_bom}
use Rattle.esto_ports.specs.declared.file_fault.FileKind.TheVariants.{Header}
use Rattle.esto_ports.specs.FileFaults.{fault_at}
use Rattle.esto_stores.specs.Rows.{Row}
use Rattle.esto_stores.specs.Table.{without_marks, header_fault, times_in, place_in}

pub no_mark : (bytes : List ℕ) → is_bom (get_or bytes 0 0) (get_or bytes 1 0) (get_or bytes 2 0) ≡ false → without_marks bytes ≡ bytes
unfolding without_marks
no_mark [] e = refl
no_mark (a ∷ []) e = refl
no_mark (a ∷ b ∷ []) e = refl
no_mark (a ∷ b ∷ c ∷ rest) e = rw e refl

pub too_short : (bytes : List ℕ) → length bytes < 3 → without_marks bytes ≡ bytes
unfolding without_marks
too_short [] e = refl
too_short (a ∷ []) e = refl
too_short (a ∷ b ∷ []) e = refl
too_short (a ∷ b ∷ c ∷ rest) e = absurd (omega arith)

pub a_mark : (bytes : List ℕ) → 3 ≤ length bytes → is_bom (get_or bytes 0 0) (get_or bytes 1 0) (get_or bytes 2 0) ≡ true
    → (without_marks bytes ≡ without_marks (take (length bytes - 3) (drop 3 bytes))) × (length (take (length bytes - 3) (drop 3 bytes)) < length bytes)
unfolding without_marks
a_mark [] h e = absurd (omega arith)
a_mark (a ∷ []) h e = absurd (omega arith)
a_mark (a ∷ b ∷ []) h e = absurd (omega arith)
a_mark (a ∷ b ∷ c ∷ rest) h e =
    let same = take_rest (a ∷ b ∷ c ∷ rest) 3 in
    rw (same, e) (refl, omega arith)

pub header_goes : (header names : Row) (i n : ℕ) → i < length names → times_in header (get_or names i []) ≡ 1
    → header_fault header n (drop i names) ≡ header_fault header (n + 1) (drop (i + 1) names)
unfolding header_fault
header_goes header names i n h e = at_drop_more (header_fault header n) names i [] h ∙ rw e refl

pub header_stops : (header names : Row) (i n : ℕ) → i < length names → times_in header (get_or names i []) ≢ 1
    → header_fault header n (drop i names) ≡ Some (fault_at Header n)
unfolding header_fault
header_stops header names i n h e = at_drop_more (header_fault header n) names i [] h ∙ rw (ne_eqb (times_in header (get_or names i [])) 1 e) refl

-- What a loop over the columns has found after the first `i`.
abbrev pub HasFound : Row → Row → ℕ → List ℕ → Type 0
HasFound header names i places =
    (places ≡ map (place_in header) (take i names)) × (header_fault header 1 names ≡ header_fault header (i + 1) (drop i names))

pub column_goes : (header names : Row) (i : ℕ) (places : List ℕ) (name : List ℕ) → i < length names → name ≡ get_or names i [] → HasFound header names i places
    → times_in header name ≡ 1 → HasFound header names (i + 1) (places ++ place_in header name ∷ [])
column_goes header names i places name h e found once = (
  ap (λ (ps : List ℕ). ps ++ place_in header name ∷ []) found.0 ∙ rw e (sym (map_more (place_in header) names i [] h)),
  found.1 ∙ header_goes header names i (i + 1) h (rw e at once),
)

pub column_stops : (header names : Row) (i : ℕ) (places : List ℕ) (name : List ℕ) → i < length names → name ≡ get_or names i [] → HasFound header names i places
    → times_in header name ≢ 1 → header_fault header 1 names ≡ Some (fault_at Header (length places + 1))
column_stops header names i places name h e found times =
    let size : length places ≡ i = ap length found.0 ∙ length-map (take i names) (place_in header) ∙ length-take-le i names (omega arith) in
    found.1 ∙ header_stops header names i (i + 1) h (rw e at times) ∙ rw size refl

pub columns_end : (header names : Row) (i : ℕ) (places : List ℕ) → length names ≤ i → HasFound header names i places
    → (header_fault header 1 names ≡ None) × (places ≡ map (place_in header) names)
unfolding header_fault
columns_end header names i places h found =
    (found.1 ∙ at_drop_all (header_fault header (i + 1)) names i h, found.0 ∙ ap (map (place_in header)) (take_all i names h))

-- Bytes with no mark at their start have none to strip.
pub nothing_stripped : (bytes : List ℕ) → strip_bom (without_marks bytes) ≡ without_marks bytes
unfolding without_marks strip_bom
nothing_stripped [] = refl
nothing_stripped (a ∷ []) = refl
nothing_stripped (a ∷ b ∷ []) = refl
nothing_stripped (a ∷ b ∷ c ∷ rest) = elim (cases_Bool (is_bom a b c)) [
  | inl mark ↦ rw mark (nothing_stripped rest)
  | inr none ↦ rw (none, none) refl
]
