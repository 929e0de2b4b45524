use Rattle.std.proofs.Common.{◌≡◌, map, take}
use Rattle.esto_steps.specs.declared.steps.Source.TheVariants.{Cell}
use Rattle.esto_steps.proofs.links.columns_of.Given as goal

abbrev pub invariant-links : goal.invariant-links
invariant-links l = l.columns ≡ map (λ link. Cell link.column) (take l.link-index l.link-items)
