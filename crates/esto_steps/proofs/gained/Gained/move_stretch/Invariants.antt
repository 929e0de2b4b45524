use Rattle.std.proofs.Common.{◌≡◌, ◌↔◌, ℕ, List, Contains}
use Rattle.esto_steps.specs.Paired.{gained_rows}
use Rattle.esto_steps.proofs.gained.Gained.move_stretch.Given as goal

abbrev pub invariant-pairs : goal.invariant-pairs
invariant-pairs l =
    ((row : List ℕ) → Contains (gained_rows l.kept l.so_far l.rows l.self) row ↔ Contains (gained_rows l.kept l.so_far l.rows l.initial.self) row)
    × (l.self.own.arity ≡ l.initial.self.own.arity)
