use Rattle.std.proofs.Common.{◌≡◌, ◌++◌, flat_map, drop}
use Rattle.esto_steps.specs.Reads.{own_cells}
use Rattle.esto_steps.proofs.reads.push_kept.Given as goal

abbrev pub invariant-sources : goal.invariant-sources
invariant-sources l = l.cells ++ flat_map (own_cells l.width) (drop l.source-index l.source-items) ≡ l.initial.cells ++ flat_map (own_cells l.width) l.kept
