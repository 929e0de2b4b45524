use Rattle.std.proofs.Common.{◌≡◌, length}
use Rattle.esto_steps.proofs.AskedLemmas.{IsAskedBelow}
use Rattle.esto_steps.proofs.asked.ask_each.Given as goal

abbrev pub invariant-rows : goal.invariant-rows
invariant-rows g l = IsAskedBelow l.get (g.F.Fragment.rows l.fragment) l.so_far.rows l.at l.seen.rows l.asked.rows
    × (l.asked.arity ≡ (g.F.Fragment.shape l.fragment).arity)
    × (l.seen.arity ≡ length l.get.inputs)
