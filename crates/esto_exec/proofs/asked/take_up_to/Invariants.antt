use Rattle.std.proofs.Common.{[], map, slice_index_or}
use Rattle.esto_steps.specs.Rows.{IsRowOf}
use Rattle.esto_exec.specs.Turns.{IsUnderWay}
use Rattle.esto_exec.proofs.asked.take_up_to.Given as goal

abbrev pub invariant-turns : goal.invariant-turns
invariant-turns g l = IsUnderWay (IsRowOf (λ number. slice_index_or (map g.F.Fragment.rows l.fragments) number [])) l.steps.arities.now l.steps.gets.now
    l.steps.equations.now l.steps.head.now
    l.so_far.done l.so_far.places l.so_far.rows.rows
