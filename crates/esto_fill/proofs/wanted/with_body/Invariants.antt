use Rattle.std.proofs.Common.{take}
use Rattle.esto_fill.specs.Wanted.{Admits}
use Rattle.esto_fill.proofs.wanted.with_body.Given as goal

-- what the atoms so far have at their second place has come to the others
abbrev pub invariant-atoms : goal.invariant-atoms
invariant-atoms l = Admits l.relation (take l.atom-index l.body) l.fn.texts l.all
