use Rattle.std.proofs.Common.{◌≡◌, ◌++◌, drop}
use Rattle.esto_semantics.specs.Listed.{chosen}
use Rattle.esto_instance.proofs.fresh.copies_of.Given as goal

abbrev pub invariant-facts : goal.invariant-facts
invariant-facts l = chosen l.marks l.facts ≡ l.copies ++ chosen (drop l.place l.marks) (drop l.place l.facts)
