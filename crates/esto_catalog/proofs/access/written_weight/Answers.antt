use Rattle.std.proofs.Common.{ℕ, to_z-of_z, subst}
use Rattle.esto_catalog.specs.Access.{IsWeight}
use Rattle.esto_catalog.proofs.RowLemmas.{judges_goes, judges_stops}
use Rattle.esto_catalog.proofs.access.written_weight.Goals as goal

pub returns-in-Some : goal.returns-in-Some
returns-in-Some c = judges_goes _ _ c.in-Some.weight (subst (λ n. IsWeight n c.in-Some.weight) (to_z-of_z c.ranges.number) c.in-Some.ensures)

pub returns-in-None : goal.returns-in-None
returns-in-None c =
    let none = subst (λ n. (weight : ℕ) → ¬ IsWeight n weight) (to_z-of_z c.ranges.number) c.in-None.ensures in
    judges_stops _ _ _ _ (λ other is. (none, is)) c.fault.ensures
