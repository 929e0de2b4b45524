use Rattle.std.proofs.Common.{◌≡◌, [], map, length, slice_index_or}
use Rattle.esto_steps.specs.Rows.{IsRowOf}
use Rattle.esto_exec.specs.Instead.{given_shape, given_rows, AreInstead}
use Rattle.esto_exec.proofs.reading.add_readings.Given as goal

abbrev pub invariant-gets : goal.invariant-gets
invariant-gets g l = (length l.readings.gets ≡ l.number)
    × AreInstead (IsRowOf (λ number. slice_index_or (map g.F.Fragment.rows l.fragments) number [])) l.steps.arities.now l.steps.gets.now
    l.steps.equations.now l.readings.gets (map (given_shape g.F.Fragment.shape) l.readings.given) (map (given_rows g.F.Fragment.rows) l.readings.given)
