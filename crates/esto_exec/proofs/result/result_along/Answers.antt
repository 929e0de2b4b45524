use Rattle.std.proofs.Common.{[], map, get_or}
use Rattle.esto_steps.specs.Rows.{IsRowOf}
use Rattle.esto_exec.proofs.UnderWayLemmas.{under_way_at}
use Rattle.esto_exec.proofs.result.result_along.Goals as goal

pub rows_of_all-requires-clause-under_way : goal.rows_of_all-requires-clause-under_way
rows_of_all-requires-clause-under_way g c =
    under_way_at (IsRowOf (λ number. get_or (map g.F.Fragment.rows c.args.fragments.now) number [])) c.args.steps.now.arities.now
    c.args.steps.now.gets.now c.args.steps.now.equations.now
    c.args.steps.now.head.now c.in_ok-so_far.so_far.done c.in_ok-so_far.so_far.places c.in_ok-so_far.so_far.rows.rows c.in_ok-so_far.ensures.0
    c.in_ok-so_far.ensures.1
    c.in_ok-so_far.ensures.2
