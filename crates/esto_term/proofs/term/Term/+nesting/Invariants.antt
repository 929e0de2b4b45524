use Rattle.std.proofs.Common.{◌≡◌, map, drop, max}
use Rattle.esto_term.specs.Nesting.{nesting, nesting_above}
use Rattle.esto_term.proofs.term.Term.+nesting.Given as goal

-- the nesting so far, with that of the frontier terms that are left, is that of the whole frontier
abbrev pub invariant-frontier : goal.invariant-frontier
invariant-frontier l = max l.nesting (nesting_above (map nesting (drop l.part-index l.part-items))) ≡ nesting_above (map nesting l.part-items)
