use Rattle.std.proofs.Common.{ℕ, ◌<◌, List, Contains}
use Rattle.esto_coded.specs.Shown.{HasNodeAt}
use Rattle.esto_coded.proofs.shown.least_node.Given as goal

abbrev pub invariant-columns : goal.invariant-columns
invariant-columns l = (row : List ℕ) (lesser : ℕ) → Contains l.rows.rows row → lesser < l.column → HasNodeAt lesser row → ⊥
