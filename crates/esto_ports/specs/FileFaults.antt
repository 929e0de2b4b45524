-- The first fault of a file, and what a reader of files gives.
use Rattle.std.specs.Prelude.{◌≡◌, ℕ, ◌+◌, List, ◌++◌, length, option_map, Option, Some, None, Result, Ok, Err}
use Rattle.esto_ports.specs.declared.file_fault.FileFault.{FileFault}
use Rattle.esto_ports.specs.declared.file_fault.FileKind.{FileKind}
use Rattle.esto_ports.specs.declared.file_fault.FileError.{FileError}
use Rattle.esto_ports.specs.declared.file_fault.FileError.TheVariants.{Fault, OutOfMemory}
use Rattle.esto_ports.specs.Lines.{lines_of, feeds_in, with_feed}

-- The fault of a kind at a place.
abbrev pub fault_at : FileKind → ℕ → FileFault
fault_at kind place = record { kind = kind; place = place }

-- The answer is this value, and there is no fault; or it is the first fault, and there is one; or memory is wanting.
abbrev pub Gives : {A : Type 0} → A → Option FileFault → Result A FileError → Type 0
Gives value fault (Ok answer) = (fault ≡ None) × (answer ≡ value)
Gives value fault (Err (Fault found)) = fault ≡ Some found
Gives value fault (Err OutOfMemory) = Unit {0}

-- The first of two faults, if there is one.
abbrev pub or_else : Option FileFault → Option FileFault → Option FileFault
or_else None second = second
or_else (Some fault) second = Some fault

-- The fault so many places later.
abbrev pub later : ℕ → FileFault → FileFault
later places fault = record fault { place = fault.place + places }

-- The first fault of lines that are counted from a number is found line by line: of lines before others it is theirs or
-- else that of the others, and it stands so many places later where the count begins so much later.
pub record GoesByLines (fault : ℕ → List (List ℕ) → Option FileFault) : Type 0 where
  pub append : (number : ℕ) (lines more : List (List ℕ)) → fault number (lines ++ more) ≡ or_else (fault number lines) (fault (number + length lines) more)
  pub move : (number places : ℕ) (lines : List (List ℕ)) → fault (number + places) lines ≡ option_map (later places) (fault number lines)

-- The first fault of a text that ends with a line feed and of another one after it is that of the one, or else that of the
-- other as many places later as the one has line feeds.
abbrev pub FaultJoins : (List ℕ → Option FileFault) → Type 0
FaultJoins fault = (bytes after : List ℕ)
    → fault (with_feed bytes ++ after) ≡ or_else (fault (with_feed bytes)) (option_map (later (feeds_in (with_feed bytes))) (fault after))

-- This holds where the first fault is found line by line.
abbrev pub FaultsJoin : Type 0
FaultsJoin = (fault : ℕ → List (List ℕ) → Option FileFault) → GoesByLines fault → FaultJoins (λ bytes. fault 1 (lines_of bytes))
