use Rattle.std.proofs.Common.{◌≡◌, ◌+◌, drop}
use Rattle.esto_docmodel.specs.Matching.{given, valuation_of}
use Rattle.esto_docmodel.proofs.matches.valuation_of.Given as goal

abbrev pub invariant-variables : goal.invariant-variables
invariant-variables l = given l.valuation (drop l.place l.variables) (drop (l.place + 1) l.row) ≡ valuation_of l.variables l.row
