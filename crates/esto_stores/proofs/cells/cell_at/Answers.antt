use Rattle.esto_stores.proofs.CellLemmas.{field_some, field_none}
use Rattle.esto_stores.proofs.cells.cell_at.Goals as goal

pub returns-in-Some : goal.returns-in-Some
returns-in-Some c = field_some _ _ _ c.in-Some.ensures.value

pub returns-in-None : goal.returns-in-None
returns-in-None c = field_none _ _ c.in-None.ensures.value
