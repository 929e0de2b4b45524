-- Files as lines.
use Rattle.std.specs.Prelude.{◌≡◌, ◌==◌, ℕ, false, if◌then◌else◌, List, [], ◌∷◌, ◌++◌, length, count_by}
use Rattle.std.specs.List.{list_any, onto_first}

-- The byte at which a line ends.
abbrev pub line_feed : ℕ
line_feed = 10

-- The lines of bytes: each ends at a line feed or at the end, and no line follows a last line feed.
unfoldable pub lines_of : List ℕ → List (List ℕ)
lines_of [] = []
lines_of (b ∷ rest) = if b == line_feed then [] ∷ lines_of rest else onto_first b (lines_of rest)

-- How many line feeds there are.
abbrev pub feeds_in : List ℕ → ℕ
feeds_in bytes = count_by (λ b. b == line_feed) bytes

-- There is no line feed.
abbrev pub IsOneLine : List ℕ → Type 0
IsOneLine bytes = list_any (λ b. b == line_feed) bytes ≡ false

-- The bytes, and a line feed after them.
abbrev pub with_feed : List ℕ → List ℕ
with_feed bytes = bytes ++ line_feed ∷ []

-- What stands before the first line feed is the first line, and what stands after it has the other lines.
abbrev pub LinesBeginAnew : Type 0
LinesBeginAnew = (line rest : List ℕ) → IsOneLine line → lines_of (line ++ line_feed ∷ rest) ≡ line ∷ lines_of rest

-- The lines of a text that ends with a line feed and of another one after it are those of the one and then those of the
-- other.
abbrev pub LinesJoin : Type 0
LinesJoin = (bytes after : List ℕ) → lines_of (with_feed bytes ++ after) ≡ lines_of (with_feed bytes) ++ lines_of after

-- A text that ends with a line feed has as many lines as line feeds.
abbrev pub LinesAreCounted : Type 0
LinesAreCounted = (bytes : List ℕ) → length (lines_of (with_feed bytes)) ≡ feeds_in (with_feed bytes)
