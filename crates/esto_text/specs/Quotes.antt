-- Quoted constants, by what they say.
use Rattle.std.specs.Prelude.{◌≡◌, ℕ, ◌≤◌, List, [], ◌∷◌, ◌++◌, length, take, Option, Some, None, if◌then◌else◌, ◌==◌}
use Rattle.std.specs.List.{flat_map, AllByRecursion}

-- A byte of a constant as it is written: a quote stands twice.
abbrev pub written : ℕ → List ℕ
written byte = if byte == 39 then 39 ∷ 39 ∷ [] else byte ∷ []

-- What a constant says, as it is written between its quotes, with the last of them.
abbrev pub closed : List ℕ → List ℕ
closed content = flat_map written content ++ 39 ∷ []

-- The bytes are a quoted constant, but for its first quote. It says characters from U+0020 up alone.
abbrev pub IsClosed : List ℕ → Type 0
IsClosed bytes = (content : List ℕ) × AllByRecursion (λ byte. 32 ≤ byte) content × (bytes ≡ closed content)

-- The length of the longest quoted constant, but for its first quote, that begins the bytes.
abbrev pub LongestClosed : List ℕ → Option ℕ → Type 0
LongestClosed bytes None = (text after : List ℕ) → text ++ after ≡ bytes → ¬ IsClosed text
LongestClosed bytes (Some n) =
    (n ≤ length bytes) × IsClosed (take n bytes) × ((text after : List ℕ) → text ++ after ≡ bytes → IsClosed text → length text ≤ n)
