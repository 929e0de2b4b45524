-- Bytes that no cell of a key file has.
use Rattle.std.specs.Prelude.{◌==◌, ◌||◌, ℕ, Bool}

-- The byte is a tab, a line feed or a carriage return.
abbrev pub is_part : ℕ → Bool
is_part byte = (byte == 9) || (byte == 10) || (byte == 13)
