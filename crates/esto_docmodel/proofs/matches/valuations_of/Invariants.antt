use Rattle.std.proofs.Common.{◌≡◌, map, take}
use Rattle.esto_docmodel.specs.Matching.{valuation_of}
use Rattle.esto_docmodel.proofs.matches.valuations_of.Given as goal

abbrev pub invariant-rows : goal.invariant-rows
invariant-rows l = l.valuations ≡ map (valuation_of l.variables) (take l.row-index l.rows)
