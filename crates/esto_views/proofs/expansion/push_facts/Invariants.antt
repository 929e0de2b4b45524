use Rattle.std.proofs.Common.{◌≡◌, ◌++◌, map, drop}
use Rattle.esto_semantics.specs.Facts.{image}
use Rattle.esto_views.specs.Expanded.{placed}
use Rattle.esto_semantics.specs.Spreads.{substituted}
use Rattle.esto_views.proofs.expansion.push_facts.Given as goal

abbrev pub invariant-parts : goal.invariant-parts
invariant-parts l =
    l.expanded ++ placed l.number l.place (map (image (substituted l.spread.from l.spread.to)) (drop l.place l.body))
    ≡ l.initial.expanded ++ placed l.number 0 (map (image (substituted l.spread.from l.spread.to)) l.body)
