use Rattle.std.proofs.Common.{◌≡◌, ◌↔◌, ◌<◌, ℕ, List, take, Contains}
use Rattle.esto_steps.specs.Joined.{IsJoin, IsKept}
use Rattle.esto_steps.specs.Paired.{gained_rows}
use Rattle.esto_steps.proofs.join.push_each_joined.Given as goal

abbrev pub invariant-rows : goal.invariant-rows
invariant-rows l =
    ((row : List ℕ) → Contains (gained_rows l.join.kept.now l.so_far l.rows l.into) row
    ↔ IsKept l.join.kept.now (IsJoin l.join.get.now (take l.at l.so_far.rows) l.rows.rows) row)
    × (l.into.own.arity ≡ l.initial.into.own.arity) × (l.looked < 18446744073709551616)
