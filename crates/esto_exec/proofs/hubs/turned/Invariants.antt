use Rattle.std.proofs.Common.{◌≡◌, map, take}
use Rattle.esto_exec.specs.Hubs.{turned}
use Rattle.esto_exec.proofs.hubs.turned.Given as goal

abbrev pub invariant-equations : goal.invariant-equations
invariant-equations l = l.own ≡ map (turned l.hub l.slot) (take l.equation-index l.equation-items)
