-- Lines and cells of key files.
use Rattle.std.proofs.Common.{◌≡◌, ◌≢◌, ◌<◌, ◌+◌, ◌-◌, ◌∙◌, ◌==◌, ◌||◌, ◌++◌, ℕ, zero, suc, List, [], ◌∷◌, Bool, true, false, Option, Some, None}
use Rattle.std.proofs.Common.{get_or, take, drop, length, refl, ap, sym, arith, add-one}
use Rattle.std.specs.Prelude.{position}
use Rattle.std.specs.List.{slice_split, onto_first, list_any}
use Rattle.std.proofs.lemmas.Bool.{ne_eqb}
use Rattle.std.proofs.lemmas.List.{take_rest}
use Rattle.std.proofs.lemmas.List.Quantifiers.{position-Some}
use Rattle.esto_stores.specs.Rows.{Row}
use Rattle.esto_ports.specs.Lines.{lines_of}
use Rattle.esto_ports.proofs.LineLemmas.{none_passes}
use Rattle.esto_stores.specs.Keys.{tab, carriage_return, without_return, cells_of_line, key_rows}

pub or_left : (a b : Bool) → (a || b) ≡ false → a ≡ false
or_left true b e = cc e
or_left false b e = refl

pub or_right : (a b : Bool) → (a || b) ≡ false → b ≡ false
or_right true b e = cc e
or_right false b e = e

-- The last byte of a line.
pub return_last : (front : List ℕ) (b : ℕ) → b ≡ carriage_return → without_return (front ++ b ∷ []) ≡ front
unfolding without_return
return_last [] b e = rw e refl
return_last (x ∷ []) b e = ap (λ (r : List ℕ). x ∷ r) (return_last [] b e)
return_last (x ∷ y ∷ ys) b e = ap (λ (r : List ℕ). x ∷ r) (return_last (y ∷ ys) b e)

pub other_last : (front : List ℕ) (b : ℕ) → b ≢ carriage_return → without_return (front ++ b ∷ []) ≡ front ++ b ∷ []
unfolding without_return
other_last [] b e = rw (ne_eqb b carriage_return e) refl
other_last (x ∷ []) b e = ap (λ (r : List ℕ). x ∷ r) (other_last [] b e)
other_last (x ∷ y ∷ ys) b e = ap (λ (r : List ℕ). x ∷ r) (other_last (y ∷ ys) b e)

pub no_return : (line : List ℕ) → length line ≡ 0 → line ≡ without_return line
unfolding without_return
no_return [] e = refl
no_return (x ∷ xs) e = absurd (omega arith)

-- The rows of a file, by its first line.
pub key_next : (rest line after : List ℕ) → lines_of rest ≡ line ∷ lines_of after → key_rows rest ≡ cells_of_line line ∷ key_rows after
unfolding key_rows
key_next rest line after e = rw e refl

pub keys_end : (rest : List ℕ) → length rest ≡ 0 → key_rows rest ≡ []
unfolding key_rows lines_of
keys_end [] e = refl
keys_end (x ∷ xs) e = absurd (omega arith)

pub keys_next : (rest line after short : List ℕ) (cells : Row) → lines_of rest ≡ line ∷ lines_of after → short ≡ without_return line
    → cells ≡ slice_split (λ b. b == tab) short → key_rows rest ≡ cells ∷ key_rows after
keys_next rest line after short cells e s k = key_next rest line after e ∙ rw (k, s) refl

-- The first cell of a line, up to the first tab.
cell_at_tab : (xs : List ℕ) (i : ℕ) → i < length xs → (get_or xs i 0 == tab) ≡ true → ((k : ℕ) → k < i → (get_or xs k 0 == tab) ≡ false)
    → slice_split (λ b. b == tab) xs ≡ take i xs ∷ slice_split (λ b. b == tab) (drop (suc i) xs)
cell_at_tab [] i h e before = absurd (omega arith)
cell_at_tab (x ∷ xs) zero h e before = rw e refl
cell_at_tab (x ∷ xs) (suc i) h e before =
    rw (before 0 (omega arith)) (ap (onto_first x) (cell_at_tab xs i (omega arith) e (λ k l. before (suc k) (omega arith))))

pub cell_first : (xs : List ℕ) (i : ℕ) → Some i ≡ position (λ b. b == tab) xs
    → slice_split (λ b. b == tab) xs ≡ take i xs ∷ slice_split (λ b. b == tab) (take (length xs - (i + 1)) (drop (i + 1) xs))
cell_first xs i e =
    let p = position-Some (λ b. b == tab) xs i 0 (sym e) in
    rw (take_rest xs (i + 1), add-one) (cell_at_tab xs i p.0 p.1 p.2)

-- A line without a tab is one cell.
pub one_cell : (xs : List ℕ) → list_any (λ b. b == tab) xs ≡ false → slice_split (λ b. b == tab) xs ≡ xs ∷ []
one_cell [] e = refl
one_cell (x ∷ xs) e = rw (or_left (x == tab) _ e) (ap (onto_first x) (one_cell xs (or_right (x == tab) _ e)))

pub cell_last : (xs : List ℕ) → ◌≡◌ {A = Option ℕ} None (position (λ b. b == tab) xs) → slice_split (λ b. b == tab) xs ≡ xs ∷ []
cell_last xs e = one_cell xs (none_passes (λ b. b == tab) xs (sym e))
