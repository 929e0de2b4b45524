-- Rows so far, over the steps that they are of.
use Rattle.std.specs.Prelude.{ℕ}
use Rattle.esto_semantics.specs.declared.fact.Fact.{Fact}
use Rattle.esto_exec.specs.declared.turns.Prepared.{Prepared}
use Rattle.esto_exec.specs.declared.turns.SoFar.{SoFar}
use Rattle.esto_exec.specs.Turns.{IsUnderWay}

-- The rows so far are what the gets that are done give together.
abbrev pub IsSoFar : (Fact ℕ → Type 0) → Prepared → SoFar → Type 0
IsSoFar Holds steps so_far = IsUnderWay Holds steps.arities.now steps.gets.now steps.equations.now steps.head.now so_far.done so_far.places so_far.rows.rows
