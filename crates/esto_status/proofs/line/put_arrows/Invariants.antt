use Rattle.std.proofs.Common.{◌≡◌, ◌++◌, drop}
use Rattle.std.specs.Prelude.{codes}
use Rattle.std.specs.List.{flat_map}
use Rattle.esto_status.proofs.line.put_arrows.Given as goal

abbrev pub invariant-names : goal.invariant-names
invariant-names l = l.line ++ flat_map (λ name. codes " -> " ++ name) (drop l.name-index l.names)
    ≡ l.initial.line ++ flat_map (λ name. codes " -> " ++ name) l.names
