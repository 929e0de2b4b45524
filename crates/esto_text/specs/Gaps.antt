-- Classes of bytes, and what stands between tokens.
use Rattle.std.specs.Prelude.{◌≡◌, ◌≢◌, ℕ, ◌≤◌, ◌⊎◌, List, [], ◌∷◌}
use Rattle.esto_text.specs.declared.scan.Class.{Class}
use Rattle.esto_text.specs.declared.scan.Class.TheVariants.{Letter, Digit, Word, Blank}

-- The byte is an ASCII letter.
abbrev pub IsLetter : ℕ → Type 0
IsLetter byte = ((65 ≤ byte) × (byte ≤ 90)) ⊎ ((97 ≤ byte) × (byte ≤ 122))

-- The byte is an ASCII digit.
abbrev pub IsDigit : ℕ → Type 0
IsDigit byte = (48 ≤ byte) × (byte ≤ 57)

-- The byte is in the class: a letter; a digit; a letter, a digit or `_`; a space, a tab, CR or LF.
abbrev pub IsIn : Class → ℕ → Type 0
IsIn Letter byte = IsLetter byte
IsIn Digit byte = IsDigit byte
IsIn Word byte = IsLetter byte ⊎ IsDigit byte ⊎ (byte ≡ 95)
IsIn Blank byte = (byte ≡ 32) ⊎ (byte ≡ 9) ⊎ (byte ≡ 13) ⊎ (byte ≡ 10)

-- The bytes are empty, or the first of them is not in the class.
abbrev pub BeginsWithout : Class → List ℕ → Type 0
BeginsWithout class [] = Unit {0}
BeginsWithout class (byte ∷ bytes) = ¬ IsIn class byte

abbrev mutual
  -- The bytes are blanks and comments, where these bytes come after them.
  pub IsGap : List ℕ → List ℕ → Type 0
  IsGap [] after = Unit {0}
  IsGap (byte ∷ bytes) after = (IsIn Blank byte × IsGap bytes after) ⊎ ((byte ≡ 35) × IsComment bytes after)

  -- The bytes are the rest of a comment, which runs to the next LF or the end, and then blanks and comments.
  pub IsComment : List ℕ → List ℕ → Type 0
  IsComment [] after = after ≡ []
  IsComment (byte ∷ bytes) after = ((byte ≡ 10) × IsGap bytes after) ⊎ ((byte ≢ 10) × IsComment bytes after)

-- Neither a blank nor a comment begins there.
abbrev pub BeginsNoGap : List ℕ → Type 0
BeginsNoGap [] = Unit {0}
BeginsNoGap (byte ∷ bytes) = (byte ≢ 35) × ¬ IsIn Blank byte
