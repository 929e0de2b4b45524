use Rattle.std.proofs.Common.{◌≡◌, ◌++◌, drop}
use Rattle.esto_views.specs.Printing.{each_from}
use Rattle.esto_reasoning.specs.Texts.{set_line}
use Rattle.esto_reasoning.proofs.printing.put_sets.Given as goal

abbrev pub invariant-sets : goal.invariant-sets
invariant-sets l = l.text ++ each_from set_line l.place (drop l.place l.sets) ≡ l.initial.text ++ each_from set_line 0 l.sets
