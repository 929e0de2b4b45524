use Rattle.std.proofs.Common.{take, Contains}
use Rattle.esto_query.specs.Making.{query_of}
use Rattle.esto_views.specs.declared.fragments.FragmentDef.{FragmentDef}
use Rattle.esto_fill.specs.Nodes.{IsFreeView}
use Rattle.esto_fill.proofs.nodes.are_free.Given as goal

-- the views so far are so
abbrev pub invariant-fragments : goal.invariant-fragments
invariant-fragments l =
    (fragment : FragmentDef) → Contains (take l.fragment-index l.fragments) fragment → IsFreeView l.columns (query_of fragment.view)
