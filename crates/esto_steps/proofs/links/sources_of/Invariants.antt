use Rattle.std.proofs.Common.{◌≡◌, map, take}
use Rattle.esto_steps.proofs.links.sources_of.Given as goal

abbrev pub invariant-links : goal.invariant-links
invariant-links l = l.sources ≡ map (λ link. link.source) (take l.link-index l.link-items)
