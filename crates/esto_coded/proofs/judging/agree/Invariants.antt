use Rattle.std.proofs.Common.{◌≡◌, List, ℕ, get_or, take, Contains}
use Rattle.esto_coded.proofs.judging.agree.Given as goal

abbrev pub invariant-rows : goal.invariant-rows
invariant-rows l = (row : List ℕ) → Contains (take l.at l.rows.rows) row → get_or row 0 0 ≡ get_or row 1 0
