-- The first fault of rows that stand one after the other.
use Rattle.std.proofs.Common.{◌≡◌, ◌+◌, ◌∙◌, ◌==◌, ◌++◌, ℕ, suc, List, [], ◌∷◌, Bool, true, false, Option, Some, length, refl, ap, arith, add-zero}
use Rattle.std.proofs.Common.{if◌then◌else◌}
use Rattle.std.specs.Prelude.{option_map}
use Rattle.esto_ports.specs.declared.file_fault.FileFault.{FileFault}
use Rattle.esto_ports.specs.declared.file_fault.FileKind.{FileKind}
use Rattle.esto_ports.specs.declared.file_fault.FileKind.TheVariants.{NotUtf8}
use Rattle.esto_ports.specs.FileFaults.{fault_at}
use Rattle.esto_stores.specs.Rows.{Row, are_texts, first_fault}
use Rattle.esto_ports.specs.FileFaults.{or_else}
use Rattle.esto_ports.specs.FileFaults.{later}

-- Two answers that go on alike.
both_append : (b c : Bool) (long short after : Option FileFault) (f g : FileFault) → long ≡ or_else short after
    → (if b then (if c then long else Some f) else Some g) ≡ or_else (if b then (if c then short else Some f) else Some g) after
both_append true true long short after f g e = e
both_append true false long short after f g e = refl
both_append false c long short after f g e = refl

pub fault_append : (kind : FileKind) (width : ℕ) (taken : Row → Row) (xs : List Row) (n : ℕ) (ys : List Row)
    → first_fault kind width taken n (xs ++ ys) ≡ or_else (first_fault kind width taken n xs) (first_fault kind width taken (n + length xs) ys)
unfolding first_fault
fault_append kind width taken [] n ys = rw add-zero refl
fault_append kind width taken (x ∷ xs) n ys =
    let next : (n + 1) + length xs ≡ n + suc (length xs) = omega arith in
    both_append (length x == width) (are_texts (taken x)) _ _ _ (fault_at NotUtf8 n) (fault_at kind n)
    (fault_append kind width taken xs (n + 1) ys ∙ rw next refl)

both_later : (b c : Bool) (m : ℕ) (far near : Option FileFault) (f g f2 g2 : FileFault) → far ≡ option_map (later m) near → f2 ≡ later m f → g2 ≡ later m g
    → (if b then (if c then far else Some f2) else Some g2) ≡ option_map (later m) (if b then (if c then near else Some f) else Some g)
both_later true true m far near f g f2 g2 e h k = e
both_later true false m far near f g f2 g2 e h k = ap Some h
both_later false c m far near f g f2 g2 e h k = ap Some k

pub fault_later : (kind : FileKind) (width : ℕ) (taken : Row → Row) (rows : List Row) (n m : ℕ)
    → first_fault kind width taken (n + m) rows ≡ option_map (later m) (first_fault kind width taken n rows)
unfolding first_fault
fault_later kind width taken [] n m = refl
fault_later kind width taken (x ∷ xs) n m =
    let next : (n + m) + 1 ≡ (n + 1) + m = omega arith in
    both_later (length x == width) (are_texts (taken x)) m _ _ (fault_at NotUtf8 n) (fault_at kind n) (fault_at NotUtf8 (n + m)) (fault_at kind (n + m))
    (rw next (fault_later kind width taken xs (n + 1) m)) refl refl
