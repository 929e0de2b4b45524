use Rattle.std.proofs.Common.{◌≡◌, length, take}
use Rattle.esto_rows.specs.Same.{IsPart, AreMarked}
use Rattle.esto_rows.proofs.same.mark_each.Given as goal

abbrev pub invariant-rows : goal.invariant-rows
invariant-rows l =
    (length l.marks ≡ length l.initial.marks) × IsPart (take l.at l.others.rows) l.rows.rows × AreMarked l.rows.rows (take l.at l.others.rows) l.marks
