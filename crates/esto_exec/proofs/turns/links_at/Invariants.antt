use Rattle.std.proofs.Common.{◌≡◌, ◌++◌, flat_map, drop}
use Rattle.esto_exec.specs.Turns.{links_of}
use Rattle.esto_exec.proofs.turns.links_at.Given as goal

abbrev pub invariant-equations : goal.invariant-equations
invariant-equations l = l.links ++ flat_map (links_of l.number l.done l.places) (drop l.equation-index l.equation-items)
    ≡ flat_map (links_of l.number l.done l.places) l.equations
