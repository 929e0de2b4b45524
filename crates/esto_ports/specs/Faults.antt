-- Counts of faults and of calls.
use Rattle.std.specs.Prelude.{◌≡◌, ℕ, ◌+◌, ◌-◌, ◌^◌, ◌<◌, min, ◌⊎◌}

-- The last value of a count, at which it stays.
abbrev pub last_count : ℕ
last_count = 2 ^ 64 - 1

-- A count rose: it is greater than before, or stands at its last value.
abbrev pub Rose : ℕ → ℕ → Type 0
Rose before now = (before < now) ⊎ (now ≡ last_count)

-- The count of this kind rose from the one state to the other.
abbrev pub Rises : {State : Type 0} → (State → ℕ) → State → State → Type 0
Rises count old new = Rose (count old) (count new)

-- The next value of a count.
abbrev pub next_count : ℕ → ℕ
next_count n = min (n + 1) last_count
