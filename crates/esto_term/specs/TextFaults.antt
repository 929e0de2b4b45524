-- What bytes give when they are read as a text.
use Rattle.std.specs.Prelude.{◌≡◌, ℕ, List, IsUtf8, Result, Ok, Err}
use Rattle.esto_term.specs.declared.text.TextError.{TextError}
use Rattle.esto_term.specs.declared.text.TextError.TheVariants.{NotUtf8, OutOfMemory}

-- Bytes that are UTF-8 give the text of these bytes, or memory is wanting; other bytes give NotUtf8.
abbrev pub ReadsText : List ℕ → Result (List ℕ) TextError → Type 0
ReadsText bytes (Ok text) = (text ≡ bytes) × IsUtf8 bytes
ReadsText bytes (Err NotUtf8) = ¬ (IsUtf8 bytes)
ReadsText bytes (Err OutOfMemory) = IsUtf8 bytes
