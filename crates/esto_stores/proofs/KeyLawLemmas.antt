-- Laws of key files.
use Rattle.std.proofs.Common.{◌≡◌, ◌≢◌, ◌∙◌, ◌==◌, ℕ, List, [], ◌∷◌, Option, map, refl, ap, sym, subst, inl, inr}
use Rattle.std.specs.Prelude.{Contains}
use Rattle.std.specs.List.{slice_split, onto_first}
use Rattle.std.proofs.lemmas.Bool.{cases_Bool, ne_eqb}
use Rattle.std.proofs.lemmas.List.{map-append, length-map}
use Rattle.esto_term.proofs.ListLemmas.{Contains-head, Contains-rest}
use Rattle.esto_ports.specs.declared.file_fault.FileFault.{FileFault}
use Rattle.esto_ports.specs.declared.file_fault.FileKind.TheVariants.{Cells}
use Rattle.esto_ports.specs.Lines.{line_feed, lines_of, with_feed, LinesJoin}
use Rattle.esto_ports.specs.FileFaults.{GoesByLines, FaultsJoin}
use Rattle.esto_stores.specs.Rows.{Row, first_fault}
use Rattle.esto_stores.specs.Keys.{tab, carriage_return, without_return, cells_of_line, key_rows, key_fault}
use Rattle.esto_stores.specs.KeyLaws.{with_returns, HasNoReturn, KeyRowsJoin, KeyFaultsJoin, KeyRowsTakeReturns, KeyFaultsTakeReturns}
use Rattle.esto_stores.proofs.FaultLemmas.{fault_append, fault_later}

pub rows_join : LinesJoin → KeyRowsJoin
unfolding key_rows
rows_join join bytes after = ap (map cells_of_line) (join bytes after) ∙ map-append cells_of_line (lines_of (with_feed bytes)) (lines_of after)

-- The first fault of lines whose rows have this many cells, counted from a number.
line_fault : ℕ → ℕ → List (List ℕ) → Option FileFault
line_fault width number lines = first_fault Cells width (λ cells. cells) number (map cells_of_line lines)

goes_by_lines : (width : ℕ) → GoesByLines (line_fault width)
unfolding line_fault
goes_by_lines width =
    record {
      append = λ number lines more.
          ap (first_fault Cells width (λ cells. cells) number) (map-append cells_of_line lines more)
          ∙ fault_append Cells width (λ cells. cells) (map cells_of_line lines) number (map cells_of_line more)
          ∙ rw (length-map lines cells_of_line) refl;
      move = λ number places lines. fault_later Cells width (λ cells. cells) (map cells_of_line lines) number places;
    }

pub keys_faults_join : FaultsJoin → KeyFaultsJoin
unfolding key_fault key_rows line_fault
keys_faults_join join width = join (line_fault width) (goes_by_lines width)

-- A carriage return before a line feed.
return_kept_first : (x : ℕ) (line : List ℕ) → x ≢ carriage_return → without_return (x ∷ line) ≡ x ∷ without_return line
unfolding without_return
return_kept_first x [] n = rw (ne_eqb x carriage_return n) refl
return_kept_first x (y ∷ ys) n = refl

onto_return : (x : ℕ) (ls : List (List ℕ)) → x ≢ carriage_return → map without_return (onto_first x ls) ≡ onto_first x (map without_return ls)
unfolding without_return
onto_return x [] n = rw (ne_eqb x carriage_return n) refl
onto_return x (l ∷ ls) n = ap (λ (t : List ℕ). t ∷ map without_return ls) (return_kept_first x l n)

-- No carriage return at the start, and none in the rest.
not_first : (x : ℕ) (xs : List ℕ) → HasNoReturn (x ∷ xs) → x ≢ carriage_return
not_first x xs none e = none (subst (Contains (x ∷ xs)) e (Contains-head x xs))

not_later : (x : ℕ) (xs : List ℕ) → HasNoReturn (x ∷ xs) → HasNoReturn xs
not_later x xs none there = none (Contains-rest x xs carriage_return there)

returns_same : (bytes : List ℕ) → HasNoReturn bytes → map without_return (lines_of (with_returns bytes)) ≡ map without_return (lines_of bytes)
unfolding with_returns lines_of without_return
returns_same [] h = refl
returns_same (x ∷ xs) h = elim (cases_Bool (x == line_feed)) [
  | inl feed ↦ rw (feed, feed) (ap (λ (ls : List (List ℕ)). [] ∷ ls) (returns_same xs (not_later x xs h)))
  | inr other ↦
      rw (other, other) (onto_return x (lines_of (with_returns xs)) (not_first x xs h) ∙ ap (onto_first x) (returns_same xs (not_later x xs h))
      ∙ sym (onto_return x (lines_of xs) (not_first x xs h)))
]

by_cells : (ls : List (List ℕ)) → map cells_of_line ls ≡ map (slice_split (λ b. b == tab)) (map without_return ls)
by_cells [] = refl
by_cells (l ∷ ls) = ap (λ (rows : List Row). cells_of_line l ∷ rows) (by_cells ls)

pub rows_take_returns : KeyRowsTakeReturns
unfolding key_rows
rows_take_returns bytes h =
    by_cells (lines_of (with_returns bytes)) ∙ ap (map (slice_split (λ b. b == tab))) (returns_same bytes h) ∙ sym (by_cells (lines_of bytes))

pub faults_take_returns : KeyFaultsTakeReturns
unfolding key_fault
faults_take_returns width bytes h = ap (first_fault Cells width (λ cells. cells) 1) (rows_take_returns bytes h)
