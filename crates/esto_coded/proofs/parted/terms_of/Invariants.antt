use Rattle.std.proofs.Common.{◌≡◌, ◌++◌, map, drop}
use Rattle.esto_coded.specs.Parted.{term_of}
use Rattle.esto_coded.proofs.parted.terms_of.Given as goal

-- the terms so far, with those of the codes that are left, are all of them
abbrev pub invariant-codes : goal.invariant-codes
invariant-codes l = l.terms ++ map (term_of l.codes) (drop l.code-index l.row) ≡ map (term_of l.codes) l.row
