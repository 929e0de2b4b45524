use Rattle.std.proofs.Common.{ℕ, ◌≤◌, take, Contains}
use Rattle.esto_coded.specs.declared.coded.TheConstants.{FIRST_NODE}
use Rattle.esto_coded.proofs.shown.any_node.Given as goal

abbrev pub invariant-codes : goal.invariant-codes
invariant-codes l = (code : ℕ) → Contains (take l.at l.column) code → FIRST_NODE ≤ code → ⊥
