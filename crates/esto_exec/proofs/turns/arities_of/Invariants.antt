use Rattle.std.proofs.Common.{map, take, slice_index_or, []}
use Rattle.esto_steps.specs.Rows.{IsRowOf}
use Rattle.esto_exec.specs.Turns.{AreArities}
use Rattle.esto_exec.proofs.turns.arities_of.Given as goal

abbrev pub invariant-gets : goal.invariant-gets
invariant-gets g l = AreArities (IsRowOf (λ number. slice_index_or (map g.F.Fragment.rows l.fragments) number [])) (take l.get-index l.get-items) l.arities
