use Rattle.std.proofs.Common.{◌≡◌, length, take}
use Rattle.esto_steps.specs.Reads.{AreStood}
use Rattle.esto_steps.proofs.reads.push_firsts.Given as goal

abbrev pub invariant-rows : goal.invariant-rows
invariant-rows l = AreStood l.cells (take l.at l.rows.rows) l.seen.rows l.few.rows × (l.few.arity ≡ l.rows.arity) × (l.seen.arity ≡ length l.cells)
