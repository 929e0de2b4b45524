use Rattle.std.proofs.Common.{◌≡◌, ◌++◌, drop}
use Rattle.esto_views.specs.Expanded.{facts_chosen}
use Rattle.esto_backchase.proofs.candidates.facts_chosen.Given as goal

abbrev pub invariant-facts : goal.invariant-facts
invariant-facts l = l.facts ++ facts_chosen l.set (drop l.part-index l.expanded) ≡ facts_chosen l.set l.expanded
