use Rattle.std.proofs.Common.{◌≡◌, map, take}
use Rattle.esto_views.specs.Plans.{fact_of}
use Rattle.esto_views.proofs.atoms.plan_facts.Given as goal

abbrev pub invariant-atoms : goal.invariant-atoms
invariant-atoms l = l.facts ≡ map fact_of (take l.atom-index l.atoms)
