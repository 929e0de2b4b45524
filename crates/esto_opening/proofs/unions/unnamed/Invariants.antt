use Rattle.std.proofs.Common.{◌≡◌, ◌++◌, drop}
use Rattle.esto_opening.specs.Opening.{unnamed}
use Rattle.esto_opening.proofs.unions.unnamed.Given as goal

-- the queries so far, with those that are left, are all of them
abbrev pub invariant-named : goal.invariant-named
invariant-named l = l.queries ++ unnamed (drop l.query-index l.named) ≡ unnamed l.named
