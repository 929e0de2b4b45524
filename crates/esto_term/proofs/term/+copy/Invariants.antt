use Rattle.std.proofs.Common.{◌≡◌, take}
use Rattle.esto_term.proofs.term.+copy.Given as goal

-- the frontier terms so far are copied
abbrev pub invariant-copied_made-frontier : goal.invariant-copied_made-frontier
invariant-copied_made-frontier l = l.own ≡ take l.part-index l.frontier
