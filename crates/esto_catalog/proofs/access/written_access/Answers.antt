use Rattle.esto_catalog.proofs.RowLemmas.{judges_goes, judges_stops}
use Rattle.esto_catalog.proofs.access.written_access.Goals as goal

pub returns-in-Some : goal.returns-in-Some
returns-in-Some c = judges_goes _ _ c.in-Some.patterns (rw (c.in-Some.is, c.len.ensures) at c.in_ok-patterns.ensures)

pub returns-in-None : goal.returns-in-None
returns-in-None c =
    let none = rw (c.in-None.is, c.len.ensures) at c.in_ok-patterns.ensures in
    judges_stops _ _ _ _ (λ other is. (none, is)) c.fault.ensures
