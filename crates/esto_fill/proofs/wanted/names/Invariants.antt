use Rattle.std.proofs.Common.{◌≡◌, false, take}
use Rattle.esto_fill.specs.Wanted.{names}
use Rattle.esto_fill.proofs.wanted.names.Given as goal

-- none of those so far is over the relation
abbrev pub invariant-atoms : goal.invariant-atoms
invariant-atoms l = names l.relation (take l.atom-index l.body) ≡ false
