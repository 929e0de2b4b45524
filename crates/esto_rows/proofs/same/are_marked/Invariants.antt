use Rattle.std.proofs.Common.{ℕ, List, take}
use Rattle.esto_rows.specs.Same.{IsPart, AreMarked}
use Rattle.esto_rows.proofs.same.are_marked.Given as goal

abbrev pub invariant-rows : goal.invariant-rows
invariant-rows l = (others : List (List ℕ)) → AreMarked l.rows.rows others l.marks → IsPart (take l.at l.rows.rows) others
