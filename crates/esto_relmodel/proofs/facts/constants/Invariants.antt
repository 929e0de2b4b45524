use Rattle.std.proofs.Common.{◌≡◌, ◌++◌, map, drop}
use Rattle.esto_term.specs.declared.term.Term.TheVariants.{Const}
use Rattle.esto_relmodel.proofs.facts.constants.Given as goal

-- the constants so far, with the cells that are left, are all of them
abbrev pub invariant-cells : goal.invariant-cells
invariant-cells l = l.terms ++ map Const (drop l.cell-index l.cells) ≡ map Const l.cells
