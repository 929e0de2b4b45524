use Rattle.std.proofs.Common.{◌≡◌, map, take}
use Rattle.esto_exec.specs.Turns.{link_in}
use Rattle.esto_exec.proofs.turns.links_in.Given as goal

abbrev pub invariant-links : goal.invariant-links
invariant-links l = l.own ≡ map (link_in l.places l.arities) (take l.link-index l.link-items)
