use Rattle.std.proofs.Common.{◌≡◌, ◌++◌, drop, map}
use Rattle.esto_query.specs.Making.{query_of}
use Rattle.esto_fill.proofs.trial.bodies_of.Given as goal

-- the bodies so far, with those of the views that are left, are all of them
abbrev pub invariant-fragments : goal.invariant-fragments
invariant-fragments l =
    l.bodies ++ map (λ fragment. (query_of fragment.view).body) (drop l.fragment-index l.fragments)
    ≡ map (λ fragment. (query_of fragment.view).body) l.fragments
