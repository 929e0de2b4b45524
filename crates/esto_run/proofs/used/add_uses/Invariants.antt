use Rattle.std.proofs.Common.{◌≡◌, ◌++◌, ℕ, List, [], map, take}
use Rattle.esto_semantics.specs.Listed.{chosen}
use Rattle.esto_views.specs.Plans.{fact_of}
use Rattle.esto_run.specs.Used.{AreFirsts, fragments_of}
use Rattle.esto_run.proofs.UsedLemmas.{AreUsedBelow}
use Rattle.esto_run.proofs.used.add_uses.Given as goal

abbrev pub invariant-atoms : goal.invariant-atoms
invariant-atoms l =
    (l.initial.fragments ≡ [] → AreUsedBelow (map fact_of l.atom-items) l.set l.number l.fragments)
    × ((numbers : List ℕ) → AreFirsts numbers l.initial.fragments
    → AreFirsts (numbers ++ fragments_of (chosen l.set (take l.number (map fact_of l.atom-items)))) l.fragments)
