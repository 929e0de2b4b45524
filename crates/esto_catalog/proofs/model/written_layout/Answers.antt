use Rattle.esto_catalog.proofs.RowLemmas.{judges_stops}
use Rattle.esto_catalog.proofs.model.written_layout.Goals as goal

pub returns-in-None : goal.returns-in-None
returns-in-None c = judges_stops _ _ _ _ (λ other is. (c.in-None.ensures, is)) c.fault.ensures
