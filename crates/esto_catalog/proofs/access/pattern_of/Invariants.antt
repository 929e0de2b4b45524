use Rattle.std.proofs.Common.{◌≡◌, take}
use Rattle.esto_catalog.specs.Access.{written_pattern}
use Rattle.esto_catalog.proofs.access.pattern_of.Given as goal

abbrev pub invariant-letters : goal.invariant-letters
invariant-letters l = take l.letter-index l.text ≡ written_pattern l.pattern
