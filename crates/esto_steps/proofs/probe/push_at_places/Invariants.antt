use Rattle.std.proofs.Common.{◌≡◌, ℕ, [], get_or, take, Contains}
use Rattle.esto_steps.specs.Joined.{IsFollowerAt, IsKept, GainsOnly}
use Rattle.esto_steps.specs.Paired.{gained_rows}
use Rattle.esto_steps.proofs.probe.push_at_places.Given as goal

abbrev pub invariant-places : goal.invariant-places
invariant-places l =
    GainsOnly (gained_rows l.join.kept.now l.so_far l.rows l.initial.into) (gained_rows l.join.kept.now l.so_far l.rows l.into)
    (λ it. (place : ℕ) × Contains (take l.place-index l.places) place
    × IsKept l.join.kept.now (IsFollowerAt l.join.get.now (get_or l.so_far.rows l.at []) l.rows.rows place) it)
    × (l.into.own.arity ≡ l.initial.into.own.arity)
