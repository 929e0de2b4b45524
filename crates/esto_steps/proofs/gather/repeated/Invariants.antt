use Rattle.std.proofs.Common.{◌≡◌, replicate}
use Rattle.esto_steps.proofs.gather.repeated.Given as goal

abbrev pub invariant-times : goal.invariant-times
invariant-times l = l.column ≡ replicate l._time l.code
