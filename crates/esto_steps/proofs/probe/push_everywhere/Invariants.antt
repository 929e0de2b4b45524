use Rattle.std.proofs.Common.{◌≡◌, [], get_or}
use Rattle.esto_steps.specs.Joined.{GainsOnly}
use Rattle.esto_steps.specs.Paired.{gained_rows}
use Rattle.esto_steps.proofs.ProbeLemmas.{FromBelow}
use Rattle.esto_steps.proofs.probe.push_everywhere.Given as goal

abbrev pub invariant-rows : goal.invariant-rows
invariant-rows l =
    GainsOnly (gained_rows l.join.kept.now l.so_far l.rows l.initial.into) (gained_rows l.join.kept.now l.so_far l.rows l.into)
    (FromBelow l.join.get.now l.join.kept.now (get_or l.so_far.rows l.at []) l.rows.rows (gained_rows l.join.kept.now l.so_far l.rows l.initial.into) l.place)
    × (l.into.own.arity ≡ l.initial.into.own.arity)
