-- A shelf over the machine's files.
use Rattle.std.specs.Prelude.{◌≡◌, ℕ, ◌<◌, List, Result, Ok, Err}
use Rattle.esto_ports.specs.Faults.{last_count, next_count}
use Rattle.esto_ports.specs.declared.ports.ShelfError.{ShelfError}
use Rattle.esto_ports.specs.declared.ports.ShelfError.TheVariants.{Failed, TooLong, OutOfMemory}

-- The count rises at Failed alone, and no other answer comes at its last value.
abbrev pub CountsFetch : ℕ → ℕ → Result (List ℕ) ShelfError → Type 0
CountsFetch before now (Ok _) = (before < last_count) × (now ≡ before)
CountsFetch before now (Err Failed) = now ≡ next_count before
CountsFetch before now (Err (TooLong _)) = (before < last_count) × (now ≡ before)
CountsFetch before now (Err OutOfMemory) = (before < last_count) × (now ≡ before)
