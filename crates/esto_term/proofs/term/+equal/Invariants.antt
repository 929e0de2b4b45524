use Rattle.std.proofs.Common.{◌≡◌, take}
use Rattle.esto_term.proofs.term.+equal.Given as goal

-- the terms so far are the same
abbrev pub invariant-equal_terms-terms : goal.invariant-equal_terms-terms
invariant-equal_terms-terms l = take l.place l.terms ≡ take l.place l.others
