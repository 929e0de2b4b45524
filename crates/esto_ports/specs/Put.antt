-- What a put does.
use Rattle.std.specs.Prelude.{ℕ, List, take, Option, Result, Ok, Err}
use Rattle.std.specs.Io.KnownBytes.{Appends, Keeps}
use Rattle.esto_ports.specs.Faults.{Rose}
use Rattle.esto_ports.specs.declared.ports.SinkError.{SinkError}
use Rattle.esto_ports.specs.declared.ports.SinkError.TheVariants.{Failed, OutOfMemory}

-- What was written grew, where it is told, by all bytes; or a fault was counted, and it grew by a prefix of them; or
-- it stayed.
abbrev pub Puts : Option (List ℕ) → Option (List ℕ) → ℕ → ℕ → List ℕ → Result (Unit {0}) SinkError → Type 0
Puts old new before now bytes (Ok _) = Appends old new bytes
Puts old new before now bytes (Err Failed) = Rose before now × ((kept : ℕ) × Appends old new (take kept bytes))
Puts old new before now bytes (Err OutOfMemory) = Keeps old new
