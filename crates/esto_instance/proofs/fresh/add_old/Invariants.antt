use Rattle.std.proofs.Common.{take}
use Rattle.esto_instance.specs.Fresh.{IsOld, Adds}
use Rattle.esto_instance.proofs.fresh.add_old.Given as goal

abbrev pub invariant-facts : goal.invariant-facts
invariant-facts l = Adds (IsOld (take l.fact-index l.facts)) l.fn.entries.items l.entries.items
