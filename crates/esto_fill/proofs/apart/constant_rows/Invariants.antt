use Rattle.std.proofs.Common.{◌≡◌, ◌++◌, map, drop}
use Rattle.esto_term.specs.declared.term.Term.TheVariants.{Const}
use Rattle.esto_fill.proofs.apart.constant_rows.Given as goal

-- the rows so far, with those that are left, are all of them
abbrev pub invariant-rows : goal.invariant-rows
invariant-rows l = l.terms.items ++ map (map Const) (drop l.row-index l.rows) ≡ map (map Const) l.rows
