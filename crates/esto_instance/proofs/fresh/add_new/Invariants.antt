use Rattle.std.proofs.Common.{take}
use Rattle.esto_instance.specs.Fresh.{IsNew, Adds}
use Rattle.esto_instance.proofs.fresh.add_new.Given as goal

abbrev pub invariant-facts : goal.invariant-facts
invariant-facts l = Adds (IsNew (take l.place l.facts)) l.fn.entries.items l.entries.items
