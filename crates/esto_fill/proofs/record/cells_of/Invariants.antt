use Rattle.std.proofs.Common.{◌≡◌, ◌++◌, map, drop}
use Rattle.esto_semantics.specs.Valuations.{map_of}
use Rattle.esto_fill.specs.Records.{cell_of}
use Rattle.esto_fill.proofs.record.cells_of.Given as goal

-- the cells so far, with those of the variables that are left, are all of them
abbrev pub invariant-variables : goal.invariant-variables
invariant-variables l =
    l.cells ++ map (λ variable. cell_of (map_of l.valuation variable)) (drop l.variable-index l.variables)
    ≡ map (λ variable. cell_of (map_of l.valuation variable)) l.variables
