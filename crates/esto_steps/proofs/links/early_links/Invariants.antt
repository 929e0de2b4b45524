use Rattle.std.proofs.Common.{◌≡◌, take}
use Rattle.esto_steps.proofs.NamedLemmas.{AreEarly}
use Rattle.esto_steps.proofs.links.early_links.Given as goal

abbrev pub invariant-inputs : goal.invariant-inputs
invariant-inputs l = l.links ≡ take l.link-index l.link-items

abbrev pub invariant-filters : goal.invariant-filters
invariant-filters l = AreEarly l.get l.width l.links
