use Rattle.std.proofs.Common.{◌≡◌, ◌++◌, map, drop}
use Rattle.esto_fill.specs.Placing.{text_of}
use Rattle.esto_fill.proofs.rows.text_row.Given as goal

-- the texts so far, with those of the terms that are left, are all of them
abbrev pub invariant-terms : goal.invariant-terms
invariant-terms l = l.row ++ map text_of (drop l.term-index l.terms) ≡ map text_of l.terms
