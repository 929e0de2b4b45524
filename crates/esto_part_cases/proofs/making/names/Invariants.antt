use Rattle.std.proofs.Common.{◌≡◌, length}
use Rattle.esto_part_cases.proofs.making.names.Given as goal

abbrev pub invariant-variables : goal.invariant-variables
invariant-variables l = length l.names ≡ l._variable
