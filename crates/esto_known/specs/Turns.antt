-- The turns in which entries are added.
use Rattle.std.specs.Prelude.{◌≡◌, ◌<◌, ℕ, List, Contains}
use Rattle.esto_known.specs.declared.turns.Turn.{Turn}

-- Each place below the count has a turn.
abbrev pub AreTurnsOf : ℕ → List Turn → Type 0
AreTurnsOf count turns = (place : ℕ) → place < count → (turn : Turn) × Contains turns turn × (turn.place ≡ place)
