use Rattle.std.proofs.Common.{◌≡◌, length}
use Rattle.esto_docmodel.proofs.matches.hidden.Given as goal

abbrev pub invariant-names : goal.invariant-names
invariant-names l = length l.names ≡ l._number
