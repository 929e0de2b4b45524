use Rattle.std.proofs.Common.{◌≡◌, map, take}
use Rattle.esto_semantics.specs.Facts.{image}
use Rattle.esto_chase.specs.Made.{made_by}
use Rattle.esto_chase.proofs.making.make_all.Given as goal

abbrev pub invariant-atoms : goal.invariant-atoms
invariant-atoms l = l.facts ≡ map (image (made_by l.number l.values l.valuation)) (take l.atom-index l.head)
