use Rattle.std.proofs.Common.{◌++◌, List, length, drop}
use Rattle.esto_views.specs.Expanded.{AreExpanded}
use Rattle.esto_semantics.specs.declared.expanded.ExpandedFact.{ExpandedFact}
use Rattle.esto_views.proofs.expansion.expanded_facts.Given as goal

abbrev pub invariant-atoms : goal.invariant-atoms
invariant-atoms l =
    (rest : List ExpandedFact) → AreExpanded l.fragments l.number l.first (drop l.number l.plan.atoms) rest
    → AreExpanded l.fragments 0 (length l.plan.names) l.plan.atoms (l.expanded ++ rest)
