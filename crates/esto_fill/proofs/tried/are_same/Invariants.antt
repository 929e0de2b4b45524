use Rattle.std.proofs.Common.{◌≡◌, take}
use Rattle.esto_fill.proofs.tried.are_same.Given as goal

-- the atoms so far are the others so far
abbrev pub invariant-atoms : goal.invariant-atoms
invariant-atoms l = take l.place l.atoms ≡ take l.place l.others
