use Rattle.std.proofs.Common.{◌≡◌, map, take}
use Rattle.esto_term.specs.Order.{replaced}
use Rattle.esto_semantics.specs.Facts.{image}
use Rattle.esto_instance.proofs.replacing.replace_in_facts.Given as goal

abbrev pub invariant-facts : goal.invariant-facts
invariant-facts l = l.images ≡ map (image (replaced l.from l.to)) (take l.fact-index l.facts)
