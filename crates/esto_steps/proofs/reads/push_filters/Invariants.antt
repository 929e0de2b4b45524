use Rattle.std.proofs.Common.{◌≡◌, ◌++◌, flat_map, drop}
use Rattle.esto_steps.specs.Reads.{filter_cells}
use Rattle.esto_steps.proofs.reads.push_filters.Given as goal

abbrev pub invariant-links : goal.invariant-links
invariant-links l = l.cells ++ flat_map (filter_cells l.width) (drop l.link-index l.link-items) ≡ l.initial.cells ++ flat_map (filter_cells l.width) l.links
