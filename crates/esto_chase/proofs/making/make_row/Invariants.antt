use Rattle.std.proofs.Common.{◌≡◌, map, take}
use Rattle.esto_chase.specs.Made.{made_by}
use Rattle.esto_chase.proofs.making.make_row.Given as goal

abbrev pub invariant-terms : goal.invariant-terms
invariant-terms l = l.made ≡ map (made_by l.number l.values l.valuation) (take l.term-index l.row)
