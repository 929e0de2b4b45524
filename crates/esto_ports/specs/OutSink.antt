-- A sink over standard output.
use Rattle.std.specs.Prelude.{◌≡◌, ℕ, ◌<◌, Result, Ok, Err}
use Rattle.esto_ports.specs.Faults.{last_count, next_count}
use Rattle.esto_ports.specs.declared.ports.SinkError.{SinkError}
use Rattle.esto_ports.specs.declared.ports.SinkError.TheVariants.{Failed, OutOfMemory}

-- The count rises at Failed alone, all bytes are put only below its last value, and memory is never refused.
abbrev pub CountsPut : ℕ → ℕ → Result (Unit {0}) SinkError → Type 0
CountsPut before now (Ok _) = (before < last_count) × (now ≡ before)
CountsPut before now (Err Failed) = now ≡ next_count before
CountsPut before now (Err OutOfMemory) = ⊥
