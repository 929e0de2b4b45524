-- The lines of a file, one after another.
use Rattle.std.proofs.Common.{◌≡◌, ◌<◌, ◌≤◌, ◌+◌, ◌∙◌, ◌++◌, ◌∷◌, [], ℕ, suc, List, Bool, true, false, cond, Some, None, Option, length, refl, ap, sym}
use Rattle.std.proofs.Common.{append_assoc, append-nil, arith, add-zero}
use Rattle.std.specs.Prelude.{option_map}
use Rattle.esto_ports.specs.declared.file_fault.FileFault.{FileFault}
use Rattle.esto_ports.specs.declared.file_fault.FileKind.TheVariants.{BadJson}
use Rattle.esto_ports.specs.FileFaults.{fault_at, or_else, later, GoesByLines, FaultsJoin}
use Rattle.esto_ports.specs.Lines.{lines_of, with_feed, LinesJoin}
use Rattle.esto_docmodel.specs.declared.tree.Tree.{Tree}
use Rattle.esto_docs.specs.Files.{is_bad, trees_of_line, trees_of_lines, lines_fault}
use Rattle.esto_docs.specs.Laws.{TreesJoin, TreesFaultsJoin}

-- The first fault of lines, by the first of them.
pub line_good : (line : List ℕ) (lines : List (List ℕ)) (number : ℕ) → is_bad line ≡ false → lines_fault number (line ∷ lines) ≡ lines_fault (number + 1) lines
unfolding lines_fault
line_good line lines number e = rw e refl

pub line_bad : (line : List ℕ) (lines : List (List ℕ)) (number : ℕ) → is_bad line ≡ true → lines_fault number (line ∷ lines) ≡ Some (fault_at BadJson number)
unfolding lines_fault
line_bad line lines number e = rw e refl

-- Where a loop over the lines stands: the lines that it has left behind are good, and have these documents.
pub record HasGone (bytes rest : List ℕ) (trees : List Tree) (number : ℕ) : Type 0 where
  pub trees_so_far : trees_of_lines (lines_of bytes) ≡ trees ++ trees_of_lines (lines_of rest)
  pub fault_so_far : lines_fault 1 (lines_of bytes) ≡ lines_fault number (lines_of rest)
  pub counted : number + length rest ≤ length bytes + 1

pub start : (bytes : List ℕ) → HasGone bytes bytes [] 1
start bytes = record { trees_so_far = refl; fault_so_far = refl; counted = omega arith }

pub goes : (bytes rest line after : List ℕ) (trees : List Tree) (number : ℕ) → HasGone bytes rest trees number → lines_of rest ≡ line ∷ lines_of after
    → length after < length rest → is_bad line ≡ false → HasGone bytes after (trees ++ trees_of_line line) (number + 1)
goes bytes rest line after trees number gone e less good =
    record {
      trees_so_far = gone.trees_so_far ∙ ap (λ (ls : List (List ℕ)). trees ++ trees_of_lines ls) e
          ∙ sym (append_assoc trees (trees_of_line line) (trees_of_lines (lines_of after)));
      fault_so_far = gone.fault_so_far ∙ ap (lines_fault number) e ∙ line_good line (lines_of after) number good;
      counted = omega (arith, gone.counted);
    }

pub stops : (bytes rest line after : List ℕ) (trees : List Tree) (number : ℕ) → HasGone bytes rest trees number → lines_of rest ≡ line ∷ lines_of after
    → is_bad line ≡ true → lines_fault 1 (lines_of bytes) ≡ Some (fault_at BadJson number)
stops bytes rest line after trees number gone e bad = gone.fault_so_far ∙ ap (lines_fault number) e ∙ line_bad line (lines_of after) number bad

pub end : (bytes rest : List ℕ) (trees : List Tree) (number : ℕ) → HasGone bytes rest trees number → length rest ≡ 0
    → (lines_fault 1 (lines_of bytes) ≡ None) × (trees ≡ trees_of_lines (lines_of bytes))
unfolding lines_of lines_fault
end bytes [] trees number gone e = (gone.fault_so_far, sym (gone.trees_so_far ∙ append-nil trees))
end bytes (x ∷ xs) trees number gone e = absurd (omega arith)

-- ---- joined files

trees_append : (xs ys : List (List ℕ)) → trees_of_lines (xs ++ ys) ≡ trees_of_lines xs ++ trees_of_lines ys
trees_append [] ys = refl
trees_append (x ∷ xs) ys =
    ap (λ (ts : List Tree). trees_of_line x ++ ts) (trees_append xs ys) ∙ sym (append_assoc (trees_of_line x) (trees_of_lines xs) (trees_of_lines ys))

pub trees_join : LinesJoin → TreesJoin
trees_join join bytes after = ap trees_of_lines (join bytes after) ∙ trees_append (lines_of (with_feed bytes)) (lines_of after)

fault_both : (bad : Bool) (fault : FileFault) (long short more : Option FileFault) → long ≡ or_else short more
    → cond bad (Some fault) long ≡ or_else (cond bad (Some fault) short) more
fault_both true fault long short more e = refl
fault_both false fault long short more e = e

faults_append : (xs : List (List ℕ)) (number : ℕ) (ys : List (List ℕ))
    → lines_fault number (xs ++ ys) ≡ or_else (lines_fault number xs) (lines_fault (number + length xs) ys)
unfolding lines_fault
faults_append [] number ys = rw add-zero refl
faults_append (x ∷ xs) number ys =
    let next : (number + 1) + length xs ≡ number + suc (length xs) = omega arith in
    fault_both (is_bad x) (fault_at BadJson number) _ _ _ (faults_append xs (number + 1) ys ∙ rw next refl)

fault_far : (bad : Bool) (number places : ℕ) (far near : Option FileFault) → far ≡ option_map (later places) near
    → cond bad (Some (fault_at BadJson (number + places))) far ≡ option_map (later places) (cond bad (Some (fault_at BadJson number)) near)
fault_far true number places far near e = refl
fault_far false number places far near e = e

faults_later : (ys : List (List ℕ)) (number places : ℕ) → lines_fault (number + places) ys ≡ option_map (later places) (lines_fault number ys)
unfolding lines_fault
faults_later [] number places = refl
faults_later (y ∷ ys) number places =
    let next : (number + places) + 1 ≡ (number + 1) + places = omega arith in
    fault_far (is_bad y) number places _ _ (rw next (faults_later ys (number + 1) places))

goes_by_lines : GoesByLines lines_fault
goes_by_lines = record { append = λ number lines more. faults_append lines number more; move = λ number places lines. faults_later lines number places }

pub faults_join : FaultsJoin → TreesFaultsJoin
faults_join join = join lines_fault goes_by_lines
