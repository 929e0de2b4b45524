use Rattle.std.proofs.Common.{◌≡◌, false, take}
use Rattle.std.specs.List.{list_any}
use Rattle.esto_fill.specs.Wanted.{names}
use Rattle.esto_fill.proofs.wanted.one_names.Given as goal

-- none of those so far is over the relation
abbrev pub invariant-bodies : goal.invariant-bodies
invariant-bodies l = list_any (names l.relation) (take l.body-index l.bodies) ≡ false
