-- Laws of key files.
use Rattle.std.specs.Prelude.{◌≡◌, ◌==◌, ℕ, if◌then◌else◌, List, [], ◌∷◌, ◌++◌, Contains}
use Rattle.esto_ports.specs.Lines.{line_feed, with_feed}
use Rattle.esto_ports.specs.FileFaults.{FaultJoins}
use Rattle.esto_stores.specs.Keys.{carriage_return, key_rows, key_fault}

-- Of a text that ends with a line feed and of another one after it, the rows are those of the one and then those of the other.
abbrev pub KeyRowsJoin : Type 0
KeyRowsJoin = (bytes after : List ℕ) → key_rows (with_feed bytes ++ after) ≡ key_rows (with_feed bytes) ++ key_rows after

-- And the first fault is that of the one, or else that of the other, moved on by the line feeds of the one.
abbrev pub KeyFaultsJoin : Type 0
KeyFaultsJoin = (width : ℕ) → FaultJoins (key_fault width)

-- The bytes with a carriage return before each line feed.
unfoldable pub with_returns : List ℕ → List ℕ
with_returns [] = []
with_returns (b ∷ rest) = if b == line_feed then carriage_return ∷ b ∷ with_returns rest else b ∷ with_returns rest

-- There is no carriage return.
abbrev pub HasNoReturn : List ℕ → Type 0
HasNoReturn bytes = Contains bytes carriage_return → ⊥

-- Where there is no carriage return, writing one before each line feed leaves the rows as they are.
abbrev pub KeyRowsTakeReturns : Type 0
KeyRowsTakeReturns = (bytes : List ℕ) → HasNoReturn bytes → key_rows (with_returns bytes) ≡ key_rows bytes

-- And it leaves the first fault as it is.
abbrev pub KeyFaultsTakeReturns : Type 0
KeyFaultsTakeReturns = (width : ℕ) (bytes : List ℕ) → HasNoReturn bytes → key_fault width (with_returns bytes) ≡ key_fault width bytes
