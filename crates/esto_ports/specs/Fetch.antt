-- What a fetch answers.
use Rattle.std.specs.Prelude.{◌≡◌, ℕ, ◌+◌, ◌<◌, ◌≤◌, List, length, Option, Result, Ok, Err}
use Rattle.esto_ports.specs.Files.{Files, Holds}
use Rattle.esto_ports.specs.Faults.{Rose}
use Rattle.esto_ports.specs.declared.ports.ShelfError.{ShelfError}
use Rattle.esto_ports.specs.declared.ports.ShelfError.TheVariants.{Failed, TooLong, OutOfMemory}

-- The answer is the file's bytes, which are within the limit; or a fault was counted; or the file is longer than the
-- limit, and so many bytes were read.
abbrev pub Fetches : Option Files → List ℕ → ℕ → ℕ → ℕ → Result (List ℕ) ShelfError → Type 0
Fetches files name limit before now (Ok bytes) = Holds files name bytes × (length bytes ≤ limit)
Fetches files name limit before now (Err Failed) = Rose before now
Fetches files name limit before now (Err (TooLong read)) = (read ≡ limit + 1) × ((bytes : List ℕ) × Holds files name bytes × (limit < length bytes))
Fetches files name limit before now (Err OutOfMemory) = Unit {0}
